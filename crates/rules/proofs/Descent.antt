-- What a search over the nine speeds, from the highest down, shows. Assumes nothing.
use Rattle.std.proofs.Common.{◌≡◌, ℕ, ◌<◌, Bool, true, false, cond, ◌⊎◌, reverse, List, [], ◌∷◌, ◌++◌, Some, Option, refl, sym, ap, ◌∙◌, subst, ⊎_elim, arith}
use Rattle.std.specs.List.{find}
use Rattle.std.specs.Option.{option_map_or}
use Rattle.std.proofs.lemmas.List.{reverse-append}
use Rattle.codes.specs.declared.speeds.Speed.{Speed}
use Rattle.codes.specs.declared.speeds.Speed.TheVariants.{V30, V40, V50, V60, V70, V80, V90, V100, V120}
use Rattle.codes.specs.declared.speeds.Code.{Code}
use Rattle.codes.specs.declared.speeds.Code.TheVariants.{Stop, Go}
use Rattle.codes.specs.Speeds.{kmh, speeds}
use Rattle.rules.specs.Searching.{Top, highest}

module _ (test : Speed → Bool) where
  -- each speed above so many km/h fails
  abbrev Failed : ℕ → Type 0
  Failed n = (v : Speed) → n < kmh v → test v ≡ false

  -- u is the only speed above so many km/h that is not above u
  abbrev Alone : ℕ → Speed → Type 0
  Alone n u = (v : Speed) → n < kmh v → (v ≡ u) ⊎ (kmh u < kmh v)

  -- where those above u fail, u passes or the search goes on
  next : (u : Speed) (n : ℕ) → Alone n u → (rest : Option Speed) → Failed (kmh u) → (Failed n → Top test (option_map_or Go rest Stop)) → Top test (option_map_or Go (cond (test u) (Some u) rest) Stop)
  next u n alone rest failed further =
      elim (test u) as (λ b. test u ≡ b → Top test (option_map_or Go (cond b (Some u) rest) Stop)) [
        | true ↦ λ e. (e, failed)
        | false ↦ λ e. further (λ v l. ⊎_elim (λ same. subst (λ w. test w ≡ false) (sym same) e) (failed v) (alone v l))
      ] refl

  highest_found : Top test (option_map_or Go (find test (reverse speeds)) Stop)
  highest_found =
      next V120 100 (λ v l. grind arith) _ (λ v l. absurd (grind arith))
      (λ a. next V100 90 (λ v l. grind arith) _ a
      (λ b. next V90 80 (λ v l. grind arith) _ b
      (λ c. next V80 70 (λ v l. grind arith) _ c
      (λ d. next V70 60 (λ v l. grind arith) _ d
      (λ e. next V60 50 (λ v l. grind arith) _ e
      (λ f. next V50 40 (λ v l. grind arith) _ f
      (λ g. next V40 30 (λ v l. grind arith) _ g
      (λ h. next V30 0 (λ v l. grind arith) _ h
      (λ i v. i v (grind arith))))))))))

  -- the first to pass of some speeds from the last back, or stop
  abbrev pub found_in : List Speed → Code
  found_in xs = option_map_or Go (find test (reverse xs)) Stop

  pub found_in_all : found_in speeds ≡ highest test
  unfolding highest
  found_in_all = refl

  pub found_last : (xs lower : List Speed) (v : Speed) → xs ≡ lower ++ v ∷ [] → test v ≡ true → found_in xs ≡ Go v
  found_last xs lower v e passes =
      ap found_in e ∙ ap (λ ys. option_map_or Go (find test ys) Stop) (reverse-append lower (v ∷ []))
      ∙ ap (λ b. option_map_or Go (cond b (Some v) (find test (reverse lower))) Stop) passes

  pub found_lower : (xs lower : List Speed) (v : Speed) → xs ≡ lower ++ v ∷ [] → test v ≡ false → found_in lower ≡ found_in xs
  found_lower xs lower v e fails =
      sym (ap found_in e ∙ ap (λ ys. option_map_or Go (find test ys) Stop) (reverse-append lower (v ∷ []))
      ∙ ap (λ b. option_map_or Go (cond b (Some v) (find test (reverse lower))) Stop) fails)

  pub highest_top : Top test (highest test)
  unfolding highest
  highest_top = highest_found

  pub top_highest : (top : Code) → top ≡ highest test → Top test top
  top_highest top e = subst (Top test) (sym e) highest_top
