-- A faulty file is not that of any book. Assumes nothing.
use Rattle.std.proofs.Common.{◌≡◌, ℕ, ◌<◌, List, [], ◌∷◌, ◌++◌, length, is_ok, Ok, Err, Decides, Result, sym, refl, ap, ◌∙◌, arith, eq-eqb}
use Rattle.std.specs.List.{AllByRecursion}
use Rattle.std.proofs.lemmas.List.{length-append}
use Rattle.std.proofs.lemmas.Bool.{cond-true}
use Rattle.codes.specs.Refusals.{gives, refuses}
use Rattle.laws.specs.Books.{Emergencies, Services}
use Rattle.laws.specs.Questions.{Question, figure, place}
use Rattle.laws.proofs.Agrees.{same_laws}
use Rattle.bookrecords.specs.Records.{Said, states, spelt, spelling, Possible}
use Rattle.bookrecords.specs.Decoding.{decoded}
use Rattle.bookrecords.specs.Files.{same, given, Means}
use Rattle.bookrecords.proofs.Decodes.{decoded_spelt}
use Rattle.bookrecords.proofs.Gives.{given_append}
use Rattle.bookrecords.proofs.Unique.{Continues, continues, same_front, same_records}
use Rattle.bookfile.specs.declared.faults.Fault.{Fault}
use Rattle.bookfile.specs.Faults.{Sound, Faulty, damaged, twice, gap, order, Read, Acceptable}

-- ---- each way in which a file is faulty

-- bytes that are refused are no records
refused_not_spelt : (rest : List ℕ) (why : ℕ × List ℕ) → 0 < length rest → decoded rest ≡ refuses why → (further : List Said) → AllByRecursion Possible further → rest ≡ spelling further → ⊥
unfolding spelling
refused_not_spelt rest why more e [] p spelt = let none = ap length spelt in omega arith
refused_not_spelt rest why more e (s ∷ further) p spelt =
    let told : refuses why ≡ gives s = sym e ∙ ap decoded spelt ∙ decoded_spelt s p.0 (spelling further) in
    let z : ◌≡◌ {A = ℕ} 0 1 = cc in omega arith

-- a figure stated first among further records is one of those given
given_first : (q : Question) (m : ℕ) (further : List Said) → given q (states q m ∷ further) ≡ m ∷ given q further
unfolding given
given_first q m further = cond-true (same q q) (m ∷ given q further) (given q further) (eq-eqb (place q) (place q) refl)

module _ (file : List ℕ) (E : Emergencies) (D : Services) (means : Means file E D) where
  further : (rs : List Said) (rest : List ℕ) → Sound rs → file ≡ spelling rs ++ rest → Continues rs rest means.records
  further rs rest sound e = continues rs rest means.records sound.possible means.possible (sym e ∙ means.spelt)

  twice_given : (rs : List Said) (q : Question) (m : ℕ) (rest : List ℕ) (more : List Said) → Possible (states q m) → AllByRecursion Possible more → 0 < length (given q rs) → means.records ≡ rs ++ more → spelt (states q m) ++ rest ≡ spelling more → ⊥
  unfolding spelling
  twice_given rs q m rest [] p ps some joined e = let none = ap length e in omega arith
  twice_given rs q m rest (s ∷ more) p ps some joined e =
      let front = same_front (states q m) s rest (spelling more) p ps.0 e in
      let first = ap (λ x. given q (x ∷ more)) (sym front) ∙ given_first q m more in
      let all = ap length (ap (given q) joined ∙ given_append q rs (s ∷ more) ∙ ap (λ xs. given q rs ++ xs) first) in
      let parts = length-append (given q rs) (m ∷ given q more) in
      let one = ap length (means.once q p.0) in
      omega arith

  whole : (rs : List Said) → Sound rs → file ≡ spelling rs → means.records ≡ rs
  whole rs sound e = same_records rs means.records sound.possible means.possible (sym e ∙ means.spelt)

  pub faulty_means : (n p : ℕ) → Faulty file n p → ⊥
  faulty_means n p (damaged rs rest why sound e more refused) =
      let rest_of = further rs rest sound e in
      refused_not_spelt rest why more refused rest_of.further rest_of.possible rest_of.spelt
  faulty_means n p (twice rs q m rest sound e possible some) =
      let rest_of = further rs (spelt (states q m) ++ rest) sound e in
      twice_given rs q m rest rest_of.further possible rest_of.possible some rest_of.joined rest_of.spelt
  faulty_means n p (gap rs q sound e asks none) =
      let one = ap length (sym none ∙ ap (given q) (sym (whole rs sound e)) ∙ means.once q asks) in omega arith
  faulty_means n p (order rs E' D' sound e figures broken) =
      broken (same_laws E E' D D' (λ q asks.
      let both : figure E D q ∷ [] ≡ figure E' D' q ∷ [] = sym (means.once q asks) ∙ ap (given q) (whole rs sound e) ∙ figures q asks in cc) means.laws)

-- ---- accepted exactly if it is that of a book

pub exactly_from_read : (file before : List ℕ) (r : Result (Unit {0}) Fault) (after : List ℕ) → Read file before r after → Decides (is_ok r) (Acceptable file before)
exactly_from_read file before (Ok done) after accepted = (λ e. (accepted.size, (_, (_, accepted.means))), λ acceptable. refl)
exactly_from_read file before (Err fault) after refused = (
  λ e. absurd (let z : ◌≡◌ {A = ℕ} 0 1 = cc in omega arith),
  λ acceptable. absurd (faulty_means file acceptable.1.0 acceptable.1.1.0 acceptable.1.1.1 _ _ (refused.fault acceptable.0).0),
)
