-- What is as bad as the value of a metre, or of a stretch. Assumes nothing.
use Rattle.std.proofs.Common.{◌≡◌, ℕ, zero, suc, ◌+◌, ◌-◌, ◌<◌, ◌≤◌, true, false, cond, ◌↔◌, List, [], ◌∷◌, map, refl, subst, ⊎_elim, arith}
use mathlib.Core.Logic.Iff
use Rattle.std.specs.List.{range_with_len, ContainsAt, AllByRecursion}
use Rattle.std.proofs.ByRecursion.{All-weaker, all-has, all_has_itself}
use Rattle.std.proofs.lemmas.Bool.{false≢true, cases_lt}
use Rattle.ground.specs.Grading.{Grading, Lawful, AsBad}
use Rattle.ground.specs.Ground.{covers, values_at, metres, metre_value, stretch_value}
use Rattle.ground.specs.StretchLaws.{SameEntries}
use Rattle.ground.specs.declared.entries.Entry.{Entry}
use Rattle.ground.proofs.Covered.{values_at_none, values_at_cons}
use Rattle.ground.proofs.Bounds.{same_bounds, worst_bound}

-- what holds of each number counted, under a function
all_counted : {X : Type 0} (f : ℕ → X) (P : X → Type 0) (a n : ℕ) → AllByRecursion P (map f (range_with_len a n)) ↔ ((x : ℕ) → a ≤ x → x < a + n → P (f x))
all_counted f P a zero = (λ h x low high. let never : ⊥ = omega arith in absurd never, λ h. tt)
all_counted f P a (suc n) =
    let rest = all_counted f P (a + 1) n in (
      λ h x low high. ⊎_elim (λ l. rest.0 h.1 x (omega arith) (omega arith)) (λ l. subst (λ y. P (f y)) (let e : a ≡ x = omega arith in e) h.0) (cases_lt a x),
      λ h. (h a (omega arith) (omega arith), rest.1 (λ x low high. h x (omega arith) (omega arith))),
    )

-- what holds of the value of each entry that covers the metre
all_covering : {V : Type 0} (P : V → Type 0) (x : ℕ) (entries : List (Entry V)) → AllByRecursion P (values_at entries x) ↔ AllByRecursion (λ entry. covers x entry ≡ true → P entry.value) entries
all_covering P x [] = rw values_at_none (λ h. tt, λ h. tt)
all_covering P x (entry ∷ entries) =
    let rest = all_covering P x entries in
    rw (values_at_cons entry x entries)
    (elim (covers x entry) as
    (λ b. AllByRecursion P (cond b (entry.value ∷ values_at entries x) (values_at entries x)) ↔ ((b ≡ true → P entry.value) × AllByRecursion (λ e. covers x e ≡ true → P e.value) entries)) [
      | true ↦ (λ h. (λ e. h.0, rest.0 h.1), λ h. (h.0 refl, rest.1 h.1))
      | false ↦ (λ h. (λ e. absurd (false≢true e), rest.0 h), λ h. rest.1 h.1)
    ])

all_same : {X : Type 0} (es fs : List X) → ((e : X) → ContainsAt es e ↔ ContainsAt fs e) → (P : X → Type 0) → AllByRecursion P es → AllByRecursion P fs
all_same es fs same P h = All-weaker (ContainsAt fs) P (λ e has. all-has P es e h ((same e).1 has)) fs (all_has_itself fs)

module _ {V : Type 0} {g : Grading V} (laws : Lawful g) where
  -- ---- one metre
  pub metre_bound : (z : V) (entries : List (Entry V)) (x : ℕ) → AsBad g z (metre_value g entries x) ↔ (AllByRecursion (λ entry. covers x entry ≡ true → AsBad g z entry.value) entries × (AllByRecursion (λ entry. covers x entry ≡ true → ⊥) entries → AsBad g z g.undrawn))
  unfolding metre_value
  metre_bound z entries x =
      let worst = worst_bound laws z (values_at entries x) in
      let values = all_covering (AsBad g z) x entries in
      let none = all_covering (λ v. ⊥) x entries in (
        λ h. (values.0 (worst.0 h).0, λ bare. (worst.0 h).1 (none.1 bare)),
        λ h. worst.1 (values.1 h.0, λ bare. h.1 (none.0 bare)),
      )

  metre_no_worse : (es fs : List (Entry V)) → SameEntries es fs → (z : V) (x : ℕ) → AsBad g z (metre_value g es x) → AsBad g z (metre_value g fs x)
  metre_no_worse es fs same z x h =
      let bound = (metre_bound z es x).0 h in
      (metre_bound z fs x).1 (all_same es fs same _ bound.0, λ bare. bound.1 (all_same fs es (λ e. Iff.symm (same e)) _ bare))

  pub metre_same : (es fs : List (Entry V)) → SameEntries es fs → (x : ℕ) → metre_value g fs x ≡ metre_value g es x
  metre_same es fs same x =
      same_bounds laws _ _ (λ z. (metre_no_worse fs es (λ e. Iff.symm (same e)) z x, metre_no_worse es fs same z x))

  -- ---- a stretch
  pub metrewise : (entries : List (Entry V)) (z : V) (a b : ℕ) → a < b → AsBad g z (stretch_value g entries a b) ↔ ((x : ℕ) → a ≤ x → x < b → AsBad g z (metre_value g entries x))
  unfolding stretch_value
  metrewise entries z a b l =
      let worst = worst_bound laws z (map (metre_value g entries) (metres a b)) in
      let each = all_counted (metre_value g entries) (AsBad g z) a (b - a) in
      let none = all_counted (metre_value g entries) (λ v. ⊥) a (b - a) in (
        λ h x low high. each.0 (worst.0 h).0 x low (omega arith),
        λ h. worst.1 (each.1 (λ x low high. h x low (omega arith)), λ empty. absurd (none.0 empty a (omega arith) (omega arith))),
      )
