-- The figures that records state for a question. Assumes nothing.
use Rattle.std.proofs.Common.{◌≡◌, ℕ, Bool, true, false, cond, List, [], ◌∷◌, ◌++◌, refl, ap, ◌∙◌, eq-eqb, ne_eqb}
use Rattle.std.proofs.lemmas.List.{append-nil}
use Rattle.std.proofs.lemmas.Bool.{cond-true, cond-false}
use Rattle.laws.specs.Questions.{Question, place}
use Rattle.bookrecords.specs.Records.{Said, states, remarks}
use Rattle.bookrecords.specs.Files.{same, given}

pub given_append : (q : Question) (rs ss : List Said) → given q (rs ++ ss) ≡ given q rs ++ given q ss
unfolding given
given_append q [] ss = refl
given_append q (states p m ∷ rs) ss = cond_more (same q p) (given_append q rs ss)
  where
    cond_more : (b : Bool) → given q (rs ++ ss) ≡ given q rs ++ given q ss → cond b (m ∷ given q (rs ++ ss)) (given q (rs ++ ss)) ≡ cond b (m ∷ given q rs) (given q rs) ++ given q ss
    cond_more true e = ap (λ xs. m ∷ xs) e
    cond_more false e = e
given_append q (remarks bytes ∷ rs) ss = given_append q rs ss

-- one record more states one figure more, of its own question alone
module _ (p q : Question) (m : ℕ) (rs : List Said) where
  pub given_same : place p ≡ place q → given p (rs ++ states q m ∷ []) ≡ given p rs ++ m ∷ []
  unfolding given
  given_same e = given_append p rs (states q m ∷ []) ∙ ap (λ xs. given p rs ++ xs) (cond-true (same p q) (m ∷ []) [] (eq-eqb _ _ e))

  pub given_other : (place p ≡ place q → ⊥) → given p (rs ++ states q m ∷ []) ≡ given p rs
  unfolding given
  given_other n =
      given_append p rs (states q m ∷ []) ∙ ap (λ xs. given p rs ++ xs) (cond-false (same p q) (m ∷ []) [] (ne_eqb _ _ n)) ∙ append-nil (given p rs)

pub given_remark : (q : Question) (rs : List Said) (bytes : List ℕ) → given q (rs ++ remarks bytes ∷ []) ≡ given q rs
unfolding given
given_remark q rs bytes = given_append q rs (remarks bytes ∷ []) ∙ append-nil (given q rs)
