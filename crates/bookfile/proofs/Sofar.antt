-- What is known of a file and a table while its records are entered. Assumes nothing.
use Rattle.std.proofs.Common.{◌≡◌, ℕ, ◌+◌, ◌<◌, ◌≤◌, List, [], ◌∷◌, ◌++◌, length, get_or, drop, replicate, IsErrAnd, Ok, Err, Result, sym, refl, ap, ◌∙◌, subst, arith}
use Rattle.std.specs.List.{AllByRecursion}
use Rattle.std.proofs.ByRecursion.{All-push}
use Rattle.std.proofs.lemmas.List.{append-nil, append_assoc, length-append, length-set, length-drop, length-replicate, drop-drop, drop_all}
use Rattle.codes.specs.declared.refusals.Refusal.{Refusal}
use Rattle.codes.specs.Refusals.{refuses, notice}
use Rattle.laws.specs.Questions.{place}
use Rattle.bookrecords.specs.Records.{Said, states, remarks, spelt, spelling, Possible, Begins}
use Rattle.bookrecords.specs.Decoding.{decoded}
use Rattle.bookrecords.specs.Files.{given}
use Rattle.bookrecords.proofs.Unique.{spelling_push}
use Rattle.bookfile.specs.Faults.{located, Sound, Faulty, damaged, twice}
use Rattle.bookfile.specs.declared.faults.Fault.{Fault}
use Rattle.bookfile.specs.Entering.{Holds, Enters, Filled, Fills}
use Rattle.bookfile.proofs.Entries.{holds_none, holds_remark, holds_more, sound_from_holds, entry_some}

-- the records before place p were entered into the table xs
pub record Sofar (file : List ℕ) (p : ℕ) (xs : List ℕ) : Type 0 where
  pub records : List Said
  pub possible : AllByRecursion Possible records
  pub spelt : file ≡ spelling records ++ drop p file
  pub stands : p ≡ length (spelling records)
  pub holds : Holds xs records
  pub whole : length xs ≡ 594

pub sofar_none : (file : List ℕ) → Sofar file 0 (replicate 594 0)
unfolding spelling
sofar_none file = record { records = []; possible = tt; spelt = refl; stands = refl; holds = holds_none; whole = let zero : ℕ = 0 in length-replicate 594 zero }

module _ (file : List ℕ) (p : ℕ) (xs : List ℕ) (sofar : Sofar file p xs) where
  sound : Sound sofar.records
  sound = sound_from_holds xs sofar.records sofar.holds sofar.possible

  pub sofar_damaged : (why : ℕ × List ℕ) → p < length file → decoded (drop p file) ≡ refuses why → Faulty file why.0 p
  sofar_damaged why more e =
      subst (Faulty file why.0) (sym sofar.stands)
      (damaged sofar.records (drop p file) why sound sofar.spelt (let left = length-drop p file in omega arith) e)

  pub sofar_all : p ≡ length file → Filled file xs
  sofar_all end =
      let none : drop p file ≡ [] = drop_all p file (omega arith) in
      record {
        records = sofar.records;
        spelt = sofar.spelt ∙ ap (λ ys. spelling sofar.records ++ ys) none ∙ append-nil (spelling sofar.records);
        possible = sofar.possible;
        holds = sofar.holds;
      }

  module _ (s : Said) (begins : Begins (drop p file) s) where
    -- the file up to the record, the record and what follows
    parts : file ≡ spelling sofar.records ++ (spelt s ++ drop (p + length (spelt s)) file)
    parts =
        sofar.spelt
        ∙ ap (λ ys. spelling sofar.records ++ ys) (begins.spells ∙ ap (λ ys. spelt s ++ ys) (drop-drop (length (spelt s)) p file))

    behind : (p' : ℕ) → p' ≡ p + length (spelt s) → (ys : List ℕ) → length ys ≡ 594 → Holds ys (sofar.records ++ s ∷ []) → Sofar file p' ys
    behind p' moved ys whole holds = record {
      records = sofar.records ++ s ∷ [];
      possible = All-push Possible sofar.records s sofar.possible begins.possible;
      spelt =
          parts ∙ ap (λ n. spelling sofar.records ++ (spelt s ++ drop n file)) (sym moved)
          ∙ sym (append_assoc (spelling sofar.records) (spelt s) (drop p' file))
          ∙ ap (λ ys. ys ++ drop p' file) (sym (spelling_push sofar.records s));
      stands = moved ∙ ap (λ n. n + length (spelt s)) sofar.stands ∙ sym (length-append (spelling sofar.records) (spelt s)) ∙ ap length (sym (spelling_push sofar.records s));
      holds = holds;
      whole = whole;
    }

-- a record that was entered, and one that states a figure again
module _ (file : List ℕ) (p : ℕ) (xs : List ℕ) (sofar : Sofar file p xs) where
  pub sofar_more : (s : Said) → Begins (drop p file) s → (p' : ℕ) → p' ≡ p + length (spelt s) → (ys : List ℕ) → Enters xs s (Ok tt) ys → Sofar file p' ys
  sofar_more (states q m) begins p' moved ys entered =
      behind file p xs sofar (states q m) begins p' moved ys (ap length entered.1 ∙ length-set xs (place q) m ∙ sofar.whole)
      (subst (λ zs. Holds zs (sofar.records ++ states q m ∷ [])) (sym entered.1)
      (holds_more xs sofar.records sofar.holds q m sofar.whole begins.possible.0 begins.possible.1 entered.0))
  sofar_more (remarks bytes) begins p' moved ys entered =
      behind file p xs sofar (remarks bytes) begins p' moved ys (ap length entered ∙ sofar.whole)
      (subst (λ zs. Holds zs (sofar.records ++ remarks bytes ∷ [])) (sym entered) (holds_remark xs sofar.records sofar.holds bytes))

  pub sofar_twice : (s : Said) → Begins (drop p file) s → (w : Refusal) (ys : List ℕ) → Enters xs s (Err w) ys → Faulty file (notice w).0 p
  sofar_twice (states q m) begins w ys entered =
      let stands = sofar.holds q begins.possible.0 in
      let some : 1 ≤ get_or xs (place q) 0 = let n = entered.0 in omega arith in
      let one : length (given q sofar.records) ≡ 1 = ap length (stands ∙ entry_some (get_or xs (place q) 0) some) in
      let number : (notice w).0 ≡ 18 = ap (λ (x : ℕ × List ℕ). x.0) entered.1 in
      subst (λ n. Faulty file n p) (sym number) (subst (Faulty file 18) (sym sofar.stands)
      (twice sofar.records q m (drop (p + length (spelt (states q m))) file) (sound file p xs sofar) (parts file p xs sofar (states q m) begins) begins.possible (omega arith)))
  sofar_twice (remarks bytes) begins w ys entered = absurd entered

-- ---- a refusal that was given its place

module _ {T : Type 0} (p : ℕ) where
  pub refused_at : (o : Result T Refusal) (r : Result T Fault) → r ≡ located p o → (f : Fault) → r ≡ Err f → (o ≡ Err f.refusal) × (p ≡ f.place)
  refused_at (Ok x) r e f is = cc
  refused_at (Err w) r e f is = let same : ◌≡◌ {A = Fault} (record { refusal = w; place = p }) f = cc in (ap (λ (g : Fault). Err g.refusal) same, ap (λ (g : Fault). g.place) same)

  pub passed_at : (o : Result T Refusal) (r : Result T Fault) → r ≡ located p o → (x : T) → r ≡ Ok x → o ≡ Ok x
  passed_at (Ok y) r e x is = cc
  passed_at (Err w) r e x is = cc

-- a fault that is due is what the filling of the table comes to
pub faulty_fills : (file xs : List ℕ) (p : ℕ) (f : Fault) → p ≡ f.place → Faulty file (notice f.refusal).0 p → (r : Result (Unit {0}) Fault) → IsErrAnd r (λ g. g ≡ f) → Fills file r xs
faulty_fills file xs p f here due (Ok done) is = absurd is
faulty_fills file xs p f here due (Err g) is =
    subst (λ (h : Fault). Faulty file (notice h.refusal).0 h.place) (sym is) (subst (Faulty file (notice f.refusal).0) here due)
