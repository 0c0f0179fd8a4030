-- Which metres an entry covers, and what it adds to the values there. Assumes nothing.
use Rattle.std.proofs.Common.{◌≡◌, ℕ, ◌+◌, ◌<◌, ◌≤◌, true, false, cond, List, [], ◌∷◌, map, filter, refl, arith}
use Rattle.std.proofs.lemmas.Bool.Decides.{nat_tests}
use Rattle.ground.specs.Ground.{covers, values_at}
use Rattle.ground.specs.declared.entries.Entry.{Entry}

pub values_at_none : {V : Type 0} (x : ℕ) → values_at {V = V} [] x ≡ []
unfolding values_at
values_at_none x = refl

module _ {V : Type 0} (entry : Entry V) (x : ℕ) where
  pub within_from_covers : covers x entry ≡ true → (entry.from ≤ x) × (x < entry.to)
  within_from_covers h = grind (arith, nat_tests)

  pub covers_from_within : entry.from ≤ x → x < entry.to → covers x entry ≡ true
  covers_from_within low high = grind (arith, nat_tests)

  -- where the entry neither begins nor ends at the next metre, it covers it as it covers this one
  pub covers_next : (entry.from ≡ x + 1 → ⊥) → (entry.to ≡ x + 1 → ⊥) → covers (x + 1) entry ≡ covers x entry
  covers_next begins ends = grind (arith, nat_tests)

  pub values_at_cons : (entries : List (Entry V)) → values_at (entry ∷ entries) x ≡ cond (covers x entry) (entry.value ∷ values_at entries x) (values_at entries x)
  unfolding values_at
  values_at_cons entries =
      elim (covers x entry) as
      (λ b. map (λ e. e.value) (cond b (entry ∷ filter (covers x) entries) (filter (covers x) entries)) ≡ cond b (entry.value ∷ map (λ e. e.value) (filter (covers x) entries)) (map (λ e. e.value) (filter (covers x) entries)))
      [ true ↦ refl | false ↦ refl ]
