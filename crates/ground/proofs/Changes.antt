-- The value of a stretch, from its begin and the changes within it. Assumes nothing.
use Rattle.std.proofs.Common.{◌≡◌, ℕ, zero, suc, ◌+◌, ◌-◌, ◌<◌, cond, ◌&&◌, ltb, ◌⊎◌, ◌↔◌, List, [], ◌∷◌, fold, sym, ◌∙◌, subst, ap₂, inl, inr, ⊎_elim, add-zero, arith}
use Rattle.std.specs.List.{ContainsAt, AllByRecursion}
use Rattle.std.proofs.ByRecursion.{All-weaker, all_has_itself}
use Rattle.std.proofs.lemmas.Bool.{cases_eq}
use Rattle.std.proofs.lemmas.Bool.Decides.{Decides-and, Decides-ltb}
use Rattle.ground.specs.Grading.{Grading, Lawful, AsBad}
use Rattle.ground.specs.Ground.{covers, values_at, metre_value, stretch_value}
use Rattle.ground.specs.Steps.{worsened_at, worsened_by}
use Rattle.ground.specs.declared.entries.Entry.{Entry}
use Rattle.ground.proofs.Bounds.{cond_bound, same_bounds}
use Rattle.ground.proofs.Covered.{values_at_none, values_at_cons, covers_next}
use Rattle.ground.proofs.Metres.{metrewise}

-- what holds of both ends of an entry
abbrev AtEnds : {V : Type 0} → (ℕ → Type 0) → Entry V → Type 0
AtEnds P entry = P entry.from × P entry.to

-- the next metre is a change, of which P holds, or the same entries cover it
change_or_same : {V : Type 0} (P : ℕ → Type 0) (x : ℕ) (entries : List (Entry V)) → AllByRecursion (AtEnds P) entries → P (x + 1) ⊎ (values_at entries (x + 1) ≡ values_at entries x)
change_or_same P x [] h = inr (values_at_none (x + 1) ∙ sym (values_at_none x))
change_or_same P x (entry ∷ entries) h =
    let added = λ (same : values_at entries (x + 1) ≡ values_at entries x) (covered : covers (x + 1) entry ≡ covers x entry). values_at_cons entry (x + 1) entries ∙ ap₂ (λ b values. cond b (entry.value ∷ values) values) covered same ∙ sym (values_at_cons entry x entries) in
    ⊎_elim (λ e. inl (subst P e h.0.0))
    (λ begins. ⊎_elim (λ e. inl (subst P e h.0.1))
    (λ ends. ⊎_elim inl (λ same. inr (added same (covers_next entry x begins ends))) (change_or_same P x entries h.1))
    (cases_eq entry.to (x + 1)))
    (cases_eq entry.from (x + 1))

module _ {V : Type 0} {g : Grading V} (laws : Lawful g) (entries : List (Entry V)) (a b : ℕ) where
  -- z is as bad as the ground at x, if x lies within the stretch
  abbrev Held : V → ℕ → Type 0
  Held z x = (a < x) × (x < b) → AsBad g z (metre_value g entries x)

  -- as bad as the ground at the begin and at each change within is as bad as the ground at each metre
  held_at : (z : V) → AsBad g z (metre_value g entries a) → AllByRecursion (AtEnds (Held z)) entries → (n : ℕ) → a + n < b → AsBad g z (metre_value g entries (a + n))
  unfolding metre_value
  held_at z begin changes zero l = rw add-zero begin
  held_at z begin changes (suc n) l =
      let next : a + suc n ≡ a + n + 1 = omega arith in
      rw next
      (⊎_elim (λ held. held (omega arith, omega arith)) (λ same. rw same (held_at z begin changes n (omega arith)))
      (change_or_same (Held z) (a + n) entries changes))

  at_bound : (z worst : V) (x : ℕ) → AsBad g z (worsened_at g entries a b worst x) ↔ (AsBad g z worst × Held z x)
  at_bound z worst x =
      cond_bound laws z worst (metre_value g entries x) (ltb a x && ltb x b) ((a < x) × (x < b)) (Decides-and (ltb a x) (ltb x b) (Decides-ltb a x) (Decides-ltb x b))

  passed_bound : (z worst : V) (seen : List (Entry V)) → AsBad g z (fold (worsened_by g entries a b) worst seen) ↔ (AsBad g z worst × AllByRecursion (AtEnds (Held z)) seen)
  passed_bound z worst [] = (λ h. (h, tt), λ h. h.0)
  passed_bound z worst (entry ∷ seen) =
      let rest = passed_bound z (worsened_by g entries a b worst entry) seen in
      let to = at_bound z (worsened_at g entries a b worst entry.from) entry.to in
      let from = at_bound z worst entry.from in (
        λ h. let second = to.0 (rest.0 h).0 in let first = from.0 second.0 in (first.0, ((first.1, second.1), (rest.0 h).1)),
        λ h. rest.1 (to.1 (from.1 (h.0, h.1.0.0), h.1.0.1), h.1.1),
      )

  pub all_passed : a < b → fold (worsened_by g entries a b) (metre_value g entries a) entries ≡ stretch_value g entries a b
  all_passed l =
      same_bounds laws _ _
      (λ z.
      let each = metrewise laws entries z a b l in
      let changes = passed_bound z (metre_value g entries a) entries in (
        λ h.
            let bound = changes.0 h in
            each.1 (λ x low high. let there : a + (x - a) ≡ x = omega arith in subst (λ y. AsBad g z (metre_value g entries y)) there (held_at z bound.0 bound.1 (x - a) (omega arith))),
        λ h.
            let held = λ (x : ℕ) (within : (a < x) × (x < b)). each.0 h x (omega arith) (omega arith) in
            changes.1 (each.0 h a (omega arith) l, All-weaker (ContainsAt entries) (AtEnds (Held z)) (λ entry has. (held entry.from, held entry.to)) entries (all_has_itself entries)),
      ))

-- what is found at the begin and at the changes is the stretch's value
pub worst_passed : {V : Type 0} {g : Grading V} (laws : Lawful g) (entries : List (Entry V)) (a b : ℕ) (worst : V) → a < b → worst ≡ fold (worsened_by g entries a b) (metre_value g entries a) entries → worst ≡ stretch_value g entries a b
worst_passed laws entries a b worst l found = found ∙ all_passed laws entries a b l
