-- What is found by its number has it, and classes, speeds and codes are found by theirs. Assumes nothing.
use Rattle.std.proofs.Common.{◌≡◌, ℕ, eqb, List, [], ◌∷◌, Some, sym, ap, ◌∙◌, inl, inr, arith, eqb-true}
use Rattle.std.proofs.lemmas.Bool.{cases_Bool, cond-true, cond-false}
use Rattle.codes.specs.declared.speeds.Speed.{Speed}
use Rattle.codes.specs.declared.speeds.Code.{Code}
use Rattle.codes.specs.declared.gradients.Class.{Class}
use Rattle.codes.specs.Speeds.{kmh, byte, numbered, speed_of, code_of}
use Rattle.codes.specs.Gradients.{number, class_of}

pub numbered_is : {X : Type 0} (f : X → ℕ) (n : ℕ) (xs : List X) (x : X) → numbered f n xs ≡ Some x → f x ≡ n
numbered_is f n [] x e = let z : f x ≡ n = cc in z
numbered_is f n (y ∷ ys) x e =
    elim (cases_Bool (eqb (f y) n)) [
      | inl here ↦
          let found : Some y ≡ Some x = sym (cond-true (eqb (f y) n) (Some y) (numbered f n ys) here) ∙ e in
          let same : y ≡ x = cc in
          sym (ap f same) ∙ eqb-true (f y) n here
      | inr past ↦ numbered_is f n ys x (sym (cond-false (eqb (f y) n) (Some y) (numbered f n ys) past) ∙ e)
    ]

pub class_back : (k : Class) → class_of (number k) ≡ Some k
class_back k = grind arith

pub speed_back : (v : Speed) → speed_of (kmh v) ≡ Some v
speed_back v = grind arith

pub code_back : (c : Code) → code_of (byte c) ≡ Some c
code_back c = grind arith
