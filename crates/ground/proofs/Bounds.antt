-- Values that are as bad as others: as both of two, as all of a list. Assumes nothing.
use Rattle.std.proofs.Common.{◌≡◌, Bool, true, false, cond, ◌↔◌, List, [], ◌∷◌, Decides, fold, sym, refl, ap, ◌∙◌, ⊎_elim}
use Rattle.std.specs.List.{AllByRecursion}
use Rattle.std.proofs.lemmas.Bool.{false≢true}
use Rattle.ground.specs.Grading.{Grading, Lawful, AsBad}
use Rattle.ground.specs.Ground.{worst_of}

module _ {V : Type 0} {g : Grading V} (laws : Lawful g) where
  -- ---- two values
  pub as_bad_itself : (v : V) → AsBad g v v
  as_bad_itself v = ⊎_elim (λ e. e) (λ e. e) (laws.picks v v)

  pub as_bad_trans : (u v w : V) → AsBad g u v → AsBad g v w → AsBad g u w
  as_bad_trans u v w h k = ap (λ y. g.worse y w) (sym h) ∙ laws.assoc u v w ∙ ap (g.worse u) k ∙ h

  -- as bad as the worse of two is as bad as both
  pub worse_bound : (z v w : V) → AsBad g z (g.worse v w) ↔ (AsBad g z v × AsBad g z w)
  worse_bound z v w =
      let over-v : AsBad g (g.worse v w) v = laws.comm (g.worse v w) v ∙ sym (laws.assoc v v w) ∙ ap (λ u. g.worse u w) (as_bad_itself v) in
      let over-w : AsBad g (g.worse v w) w = laws.assoc v w w ∙ ap (g.worse v) (as_bad_itself w) in (
        λ h. (as_bad_trans z (g.worse v w) v h over-v, as_bad_trans z (g.worse v w) w h over-w),
        λ h. sym (laws.assoc z v w) ∙ ap (λ u. g.worse u w) h.0 ∙ h.1,
      )

  -- values that the same values are as bad as are one value
  pub same_bounds : (v w : V) → ((z : V) → AsBad g z v ↔ AsBad g z w) → v ≡ w
  same_bounds v w h = sym ((h v).0 (as_bad_itself v)) ∙ laws.comm v w ∙ (h w).1 (as_bad_itself w)

  -- worsened by w only where P holds
  pub cond_bound : (z v w : V) (test : Bool) (P : Type 0) → Decides test P → AsBad g z (cond test (g.worse v w) v) ↔ (AsBad g z v × (P → AsBad g z w))
  cond_bound z v w true P d = (λ h. let b = (worse_bound z v w).0 h in (b.0, λ p. b.1), λ h. (worse_bound z v w).1 (h.0, h.1 (d.0 refl)))
  cond_bound z v w false P d = (λ h. (h, λ p. absurd (false≢true (d.1 p))), λ h. h.0)

  -- ---- a list of values
  folded_bound : (z v : V) (values : List V) → AsBad g z (fold g.worse v values) ↔ (AsBad g z v × AllByRecursion (AsBad g z) values)
  folded_bound z v [] = (λ h. (h, tt), λ h. h.0)
  folded_bound z v (w ∷ values) =
      let rest = folded_bound z (g.worse v w) values in
      let two = worse_bound z v w in (
        λ h. let b = two.0 (rest.0 h).0 in (b.0, (b.1, (rest.0 h).1)),
        λ h. rest.1 (two.1 (h.0, h.1.0), h.1.1),
      )

  -- the worst of some values; of none, it is that of undrawn ground
  pub worst_bound : (z : V) (values : List V) → AsBad g z (worst_of g values) ↔ (AllByRecursion (AsBad g z) values × (AllByRecursion (λ v. ⊥) values → AsBad g z g.undrawn))
  unfolding worst_of
  worst_bound z [] = (λ h. (tt, λ none. h), λ h. h.1 tt)
  worst_bound z (v ∷ values) = (λ h. ((folded_bound z v values).0 h, λ none. absurd none.0), λ h. (folded_bound z v values).1 h.0)
