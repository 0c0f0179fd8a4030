-- A kind whose values have a rank each, of which the worse of two has the higher. Assumes nothing.
use Rattle.std.specs.Prelude.{◌≡◌, ℕ, ◌≤◌, max, ◌⊎◌}
use Rattle.std.proofs.Common.{ap, inl, inr, ⊎_elim, arith}
use Rattle.std.proofs.lemmas.Bool.{cases_lt}
use Rattle.ground.specs.Grading.{Grading, Lawful, AsBad}

module _ {V : Type 0} (g : Grading V) (rank : V → ℕ) (apart : (v w : V) → rank v ≡ rank w → v ≡ w) (higher : (v w : V) → rank (g.worse v w) ≡ max (rank v) (rank w)) where
  picks : (v w : V) → (g.worse v w ≡ v) ⊎ (g.worse v w ≡ w)
  picks v w =
      ⊎_elim (λ below. inr (apart _ _ (omega (arith, higher v w)))) (λ above. inl (apart _ _ (omega (arith, higher v w))))
      (cases_lt (rank v) (rank w))

  assoc : (u v w : V) → g.worse (g.worse u v) w ≡ g.worse u (g.worse v w)
  assoc u v w = apart _ _ (omega (arith, higher (g.worse u v) w, higher u v, higher u (g.worse v w), higher v w))

  pub lawful_by_rank : Lawful g
  lawful_by_rank = record { picks = picks; comm = λ v w. apart _ _ (omega (arith, higher v w, higher w v)); assoc = assoc }

  pub rank_from_as_bad : (v w : V) → AsBad g v w → rank w ≤ rank v
  rank_from_as_bad v w h = omega (arith, higher v w, ap rank h)

  pub as_bad_from_rank : (v w : V) → rank w ≤ rank v → AsBad g v w
  as_bad_from_rank v w h = apart _ _ (omega (arith, higher v w))
