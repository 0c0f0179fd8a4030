-- What is known once all records of a file were entered. Assumes nothing.
use Rattle.std.proofs.Common.{◌≡◌, ℕ, ◌≤◌, true, false, List, [], ◌∷◌, length, get_or, replicate, Ok, Err, Result, sym, refl, ap, ◌∙◌, subst, arith}
use Rattle.codes.specs.declared.gradients.Class.TheVariants.{C1}
use Rattle.codes.specs.declared.speeds.Speed.TheVariants.{V30}
use Rattle.laws.specs.Books.{Laws}
use Rattle.laws.specs.Questions.{Question, emergency, service, Asks, figure, place, questions, emergency_of, service_of}
use Rattle.laws.proofs.Places.{place_within, question_at}
use Rattle.bookrecords.specs.Files.{given, Means}
use Rattle.bookfile.specs.declared.faults.Fault.{Fault}
use Rattle.bookfile.specs.Faults.{Sound, Faulty, gap, order, sized, Tabled, Read}
use Rattle.bookfile.specs.Entering.{entry, Filled, has_gap, left}
use Rattle.bookfile.proofs.Gaps.{gap_place, gapless}
use Rattle.bookfile.proofs.Entries.{sound_from_holds, entry_some}

pub figure_at : (xs : List ℕ) (q : Question) → get_or xs (place q) 0 ≡ figure (emergency_of xs) (service_of xs) q
figure_at xs (emergency k from to) = refl
figure_at xs (service k from) = refl

module _ (file xs : List ℕ) (filled : Filled file xs) (whole : length xs ≡ 594) where
  sound : Sound filled.records
  sound = sound_from_holds xs filled.records filled.holds filled.possible

  pub gap_faulty : has_gap xs ≡ true → Faulty file 19 (length file)
  gap_faulty e =
      let found = gap_place xs e in
      let there = question_at found.0 (service C1 V30) (let l = found.1.0 in omega arith) in
      let missing = get_or questions found.0 (service C1 V30) in
      gap filled.records missing sound filled.spelt there.0
      (filled.holds missing there.0 ∙ ap entry (ap (λ i. get_or xs i 0) there.1 ∙ found.1.1))

  module _ (full : has_gap xs ≡ false) where
    all_given : (q : Question) → Asks q → given q filled.records ≡ figure (emergency_of xs) (service_of xs) q ∷ []
    all_given q asks =
        filled.holds q asks ∙ entry_some (get_or xs (place q) 0) (gapless xs full (place q) (let w = place_within q asks in omega arith))
        ∙ ap (λ n. n ∷ []) (figure_at xs q)

    pub order_faulty : (Laws (emergency_of xs) (service_of xs) → ⊥) → Faulty file 20 (length file)
    order_faulty broken = order filled.records (emergency_of xs) (service_of xs) sound filled.spelt all_given broken

    pub means_from_filled : length file ≤ 32768 → Laws (emergency_of xs) (service_of xs) → Means file (emergency_of xs) (service_of xs)
    means_from_filled short laws = record {
      short = short;
      records = filled.records;
      spelt = filled.spelt;
      possible = filled.possible;
      once = all_given;
      laws = laws;
    }

-- the table is zeroed where the file was refused
pub read_from_tabled : (file before : List ℕ) → sized file before ≡ true → (r : Result (Unit {0}) Fault) (xs after : List ℕ) → Tabled file r xs → after ≡ left r xs → Read file before r after
read_from_tabled file before size (Ok done) xs after tabled e =
    subst (Read file before (Ok done)) (sym e) (record { size = size; whole = tabled.0; means = tabled.1 })
read_from_tabled file before size (Err fault) xs after tabled e = record {
  size = λ other. absurd (let z : ◌≡◌ {A = ℕ} 0 1 = cc in omega arith);
  fault = λ size'. (tabled.1, e ∙ ap (λ n. replicate n 0) tabled.0);
}
