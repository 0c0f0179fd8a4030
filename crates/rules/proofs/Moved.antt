-- A position moved on by lengths, one after the other. Assumes nothing.
use Rattle.std.proofs.Common.{◌≡◌, ℕ, zero, suc, ◌+◌, ◌≤◌, List, [], ◌∷◌, get_or, sym, refl, subst, arith}
use native.Mathlib.Decide.{dec_le}
use Rattle.rules.specs.Tracks.{moved_on}

pub moved_none : (a : ℕ) (xs : List ℕ) → moved_on a xs 0 ≡ a
unfolding moved_on
moved_none a xs = refl

pub moved_more : (a : ℕ) (xs : List ℕ) (j : ℕ) → moved_on a xs (suc j) ≡ moved_on a xs j + get_or xs j 0
unfolding moved_on
moved_more a [] zero = omega arith
moved_more a [] (suc j) = omega arith
moved_more a (x ∷ xs) zero = refl
moved_more a (x ∷ xs) (suc j) = moved_more (a + x) xs j

pub moved_rises : (a : ℕ) (xs : List ℕ) (i j : ℕ) → i ≤ j → moved_on a xs i ≤ moved_on a xs j
moved_rises a xs i zero l = let e : i ≡ 0 = omega arith in subst (λ n. moved_on a xs n ≤ moved_on a xs 0) (sym e) (omega arith)
moved_rises a xs i (suc j) l =
    elim (dec_le i j) [
      | yes under ↦ let rest = moved_rises a xs i j under in let one = moved_more a xs j in omega arith
      | no last ↦ let e : i ≡ suc j = omega arith in subst (λ n. moved_on a xs n ≤ moved_on a xs (suc j)) (sym e) (omega arith)
    ]
