-- The table that holds the figures of records. Assumes nothing.
use Rattle.std.proofs.Common.{◌≡◌, ℕ, zero, suc, ◌<◌, ◌≤◌, List, [], ◌∷◌, ◌++◌, length, get_or, set, replicate, sym, refl, ap, ◌∙◌, inl, inr, arith, eqb-true}
use borrow.Author.Tests.{eqb-false}
use Rattle.std.specs.List.{AllByRecursion}
use Rattle.std.proofs.lemmas.List.{get_or-replicate, get_or-set_same, get_or-set_other}
use Rattle.std.proofs.lemmas.Bool.{cases_Bool}
use Rattle.laws.specs.Books.{Metres}
use Rattle.laws.specs.Questions.{Question, Asks, place}
use Rattle.laws.proofs.Places.{place_within}
use Rattle.bookrecords.specs.Records.{Said, states, remarks, Possible}
use Rattle.bookrecords.specs.Files.{same, given}
use Rattle.bookrecords.proofs.Gives.{given_same, given_other, given_remark}
use Rattle.bookfile.specs.Faults.{Sound}
use Rattle.bookfile.specs.Entering.{entry, Holds}

pub entry_some : (n : ℕ) → 1 ≤ n → entry n ≡ n ∷ []
entry_some zero l = absurd (omega arith)
entry_some (suc n) l = refl

entry_short : (n : ℕ) → length (entry n) ≤ 1
entry_short zero = omega arith
entry_short (suc n) = omega arith

pub holds_none : Holds (replicate 594 0) []
unfolding given
holds_none q asks = sym (ap entry (get_or-replicate 594 (place q) 0 0 (place_within q asks)))

module _ (xs : List ℕ) (rs : List Said) (holds : Holds xs rs) where
  pub sound_from_holds : AllByRecursion Possible rs → Sound rs
  sound_from_holds possible = record {
    possible = possible;
    single = λ q asks. let e = ap length (holds q asks) in let s = entry_short (get_or xs (place q) 0) in omega arith;
  }

  pub holds_remark : (bytes : List ℕ) → Holds xs (rs ++ remarks bytes ∷ [])
  holds_remark bytes q asks = given_remark q rs bytes ∙ holds q asks

  module _ (q : Question) (m : ℕ) (whole : length xs ≡ 594) (asks : Asks q) (within : Metres m) (free : get_or xs (place q) 0 ≡ 0) where
    here : place q < length xs
    here = let w = place_within q asks in omega arith

    pub holds_more : Holds (set xs (place q) m) (rs ++ states q m ∷ [])
    holds_more p asks' =
        elim (cases_Bool (same p q)) [
          | inl level ↦
              let e = eqb-true (place p) (place q) level in
              let none : given p rs ≡ [] = holds p asks' ∙ ap entry (ap (λ i. get_or xs i 0) e ∙ free) in
              let new : get_or (set xs (place q) m) (place p) 0 ≡ m = ap (λ i. get_or (set xs (place q) m) i 0) e ∙ get_or-set_same xs (place q) m 0 here in
              given_same p q m rs e ∙ ap (λ ys. ys ++ m ∷ []) none ∙ sym (ap entry new ∙ entry_some m within.0)
          | inr other ↦
              let apart = eqb-false (place p) (place q) other in
              given_other p q m rs apart ∙ holds p asks' ∙ sym (ap entry (get_or-set_other xs (place q) (place p) m 0 apart))
        ]
