-- The stop ground, the highest row and the first break that are worked out are those of the rules. Assumes nothing.
use Rattle.std.proofs.Common.{◌≡◌, ℕ, zero, suc, ◌+◌, ◌<◌, ◌≤◌, Bool, true, false, cond, ◌&&◌, eqb, List, [], ◌∷◌, length, get_or, Some, None, Decides, Option, sym, refl, subst, true≢false, arith}
use native.Mathlib.Decide.{dec_le, ℕ_discrete}
use Rattle.std.specs.List.{ContainsAt, AllByRecursion}
use Rattle.std.proofs.ByRecursion.{All-weaker, all_has_itself}
use Rattle.std.proofs.lemmas.Bool.{not-true, not-false}
use Rattle.std.proofs.lemmas.Bool.Decides.{Decides-and, Decides-eqb, not_from_Decides}
use Rattle.codes.specs.declared.speeds.Speed.{Speed}
use Rattle.codes.specs.declared.speeds.Code.{Code}
use Rattle.codes.specs.declared.speeds.Code.TheVariants.{Stop, Go}
use Rattle.codes.specs.Speeds.{kmh, byte}
use Rattle.laws.specs.Books.{Emergencies, Services, Distances}
use Rattle.rules.specs.Tracks.{Track, Mark, Stands, class_over}
use Rattle.rules.specs.Rules.{Rule, touching, ahead, service, stopping, next, rule_number, Fits, Stops, Obeys, Allowed, code_at}
use Rattle.rules.specs.Rows.{Breaks}
use Rattle.rows.specs.Finding.{HighestAt, FoundFrom, Reached}
use Rattle.rows.specs.WorkingOut.{FirstOfGround}
use Rattle.rows.proofs.Grounds.{reached_none, reached_joined, reached_kept, first_of_ground}
use Rattle.codes.proofs.Firsts.{FirstPassing}
use Rattle.rules.proofs.FirstRule.{first_rule}
use Rattle.alfa.proofs.Searches.{below_top, below_from_kmh, highest_speed}
use Rattle.alfa.proofs.Tests.{allows, fits, decides_fits, decides_obeys, decides_allows}
use Rattle.alfa.proofs.Solving.{code_from, no_speed, looked_at, stops, ground_back, ground_begin, highest_code, row_back, highest_row, fails, break_from, first_break}

all_each : {X : Type 0} (P : X → Type 0) → ((x : X) → P x) → (xs : List X) → AllByRecursion P xs
all_each P each xs = All-weaker (ContainsAt xs) P (λ x has. each x) xs (all_has_itself xs)

module _ (track : Track) (mark : Mark) (E : Emergencies) (D : Services) where
  -- ---- the stop ground

  stops_by : (j : ℕ) (o : Option Speed) → FirstPassing below_top (λ v. fits (class_over track) track mark E D j (Go v)) o → Decides (no_speed o) (Stops track mark E D j)
  stops_by j None none = (λ e c. only_stop c, λ h. refl)
    where
      only_stop : (c : Code) → Fits track mark E D j c → c ≡ Stop
      only_stop Stop fitting = refl
      only_stop (Go v) fitting = absurd (not_from_Decides _ (decides_fits track mark E D j (Go v)) (none v) fitting)
  stops_by j (Some v) (fitting, higher) = (
    λ e. absurd (true≢false (sym e)),
    λ stopped. absurd (let stop : Go v ≡ Stop = stopped (Go v) ((decides_fits track mark E D j (Go v)).0 fitting) in let z : ◌≡◌ {A = ℕ} 0 1 = cc in omega arith),
  )

  decides_stops : (j : ℕ) → Decides (stops (class_over track) track mark E D j) (Stops track mark E D j)
  decides_stops j = stops_by j _ (highest_speed (λ v. fits (class_over track) track mark E D j (Go v)))

  module _ (distances : Distances E D) (stands : Stands track mark) where
    joined_or_kept : (j first : ℕ) → Reached track mark E D (suc j) first → suc j ≤ mark.interval → (b : Bool) → Decides b ((first ≡ suc (suc j)) × Stops track mark E D (suc j)) → Reached track mark E D j (cond b (suc j) first)
    joined_or_kept j first reached within true d = reached_joined track mark E D distances stands j first reached within (d.0 refl).0 (d.0 refl).1
    joined_or_kept j first reached within false d = reached_kept track mark E D distances stands j first reached within (λ stopped e. true≢false (sym (d.1 (e, stopped))))

    reached_back : (j first : ℕ) → Reached track mark E D j first → j ≤ mark.interval → Reached track mark E D 0 (ground_back (class_over track) track mark E D j first)
    reached_back zero first reached within = reached
    reached_back (suc j) first reached within =
        reached_back j _
        (joined_or_kept j first reached within (eqb first (suc (suc j)) && stops (class_over track) track mark E D (suc j)) (Decides-and _ _ (Decides-eqb first (suc (suc j))) (decides_stops (suc j))))
        (omega arith)

    pub begins_ground : FirstOfGround track mark E D (ground_begin (class_over track) track mark E D)
    begins_ground =
        first_of_ground track mark E D distances stands _
        (reached_back mark.interval (suc mark.interval) (reached_none track mark E D distances stands) (omega arith))

  -- ---- the highest row

  stop_allowed : (j : ℕ) (w : Code) → Allowed track mark E D j Stop w
  stop_allowed j w =
      (all_each _ (λ x before under over. omega arith) track.restrictions, (all_each _ (λ x before behind. tt) track.restrictions, (tt, (tt, (λ before. tt, tt)))))

  module _ (first : ℕ) (ground : FirstOfGround track mark E D first) where
    highest_by : (j : ℕ) (w : Code) (o : Option Speed) → FirstPassing below_top (λ v. allows (class_over track) track mark E D first j (Go v) w) o → HighestAt track mark E D j (code_from o) w
    highest_by j w None none = record { allowed = stop_allowed j w; highest = below }
      where
        below : (u : Code) → Allowed track mark E D j u w → byte u ≤ 0
        below Stop allowed = omega arith
        below (Go u) allowed = absurd (not_from_Decides _ (decides_allows track mark E D first ground j (Go u) w) (none u) allowed)
    highest_by j w (Some v) (passes, higher) = record { allowed = (decides_allows track mark E D first ground j (Go v) w).0 passes; highest = below }
      where
        below : (u : Code) → Allowed track mark E D j u w → byte u ≤ kmh v
        below Stop allowed = omega arith
        below (Go u) allowed =
            elim (dec_le (kmh u) (kmh v)) [
              | yes under ↦ under
              | no over ↦ absurd (not_from_Decides _ (decides_allows track mark E D first ground j (Go u) w) (higher u (below_from_kmh v u (omega arith))) allowed)
            ]

    highest_at : (j : ℕ) (w : Code) → HighestAt track mark E D j (highest_code (class_over track) track mark E D first j w) w
    highest_at j w = highest_by j w _ (highest_speed (λ v. allows (class_over track) track mark E D first j (Go v) w))

    -- the codes of the intervals behind the n-th
    record FoundBehind (n : ℕ) (row : List Code) : Type 0 where
      size : n + length row ≡ mark.interval
      each : (j : ℕ) → j < length row → HighestAt track mark E D (suc (n + j)) (get_or row j Stop) (get_or row (suc j) Stop)

    found_more : (n : ℕ) (row : List Code) (c : Code) → FoundBehind (suc n) row → HighestAt track mark E D (suc n) c (get_or row 0 Stop) → FoundBehind n (c ∷ row)
    found_more n row c found here = record { size = let size = found.size in omega arith; each = each }
      where
        each : (j : ℕ) → j < length (c ∷ row) → HighestAt track mark E D (suc (n + j)) (get_or (c ∷ row) j Stop) (get_or (c ∷ row) (suc j) Stop)
        each zero l = subst (λ i. HighestAt track mark E D i c (get_or row 0 Stop)) (let e : suc n ≡ suc (n + 0) = omega arith in e) here
        each (suc j) l = subst (λ i. HighestAt track mark E D i (get_or row j Stop) (get_or row (suc j) Stop)) (let e : suc (suc n + j) ≡ suc (n + suc j) = omega arith in e) (found.each j (omega arith))

    found_back : (n : ℕ) (row : List Code) → FoundBehind n row → FoundFrom track mark E D 0 (row_back (class_over track) track mark E D first n row)
    found_back zero row found = record {
      size = let size = found.size in omega arith;
      each = λ j low high. subst (λ i. HighestAt track mark E D (suc i) (get_or row j Stop) (get_or row (suc j) Stop)) (let e : 0 + j ≡ j = omega arith in e) (found.each j (let size = found.size in omega arith));
    }
    found_back (suc n) row found = found_back n _ (found_more n row _ found (highest_at (suc n) (get_or row 0 Stop)))

    pub row_found : FoundFrom track mark E D 0 (highest_row (class_over track) track mark E D first)
    row_found = found_back mark.interval [] (record { size = omega arith; each = λ j l. absurd (omega arith) })

    -- ---- the first break

    module _ (approach : Speed) (row : List Code) where
      abbrev pub ObeysAt : ℕ → Rule → Type 0
      ObeysAt j rule = Obeys track mark E D j (code_at approach row j) (get_or row j Stop) rule

      abbrev pub AllowedAt : ℕ → Type 0
      AllowedAt j = Allowed track mark E D j (code_at approach row j) (get_or row j Stop)

      abbrev pub Judged : Option (ℕ × Rule) → Type 0
      Judged None = (j : ℕ) → j ≤ mark.interval → AllowedAt j
      Judged (Some (j, rule)) = Breaks track mark E D approach row j rule

      abbrev fails_at : ℕ → Rule → Bool
      fails_at = fails (class_over track) track mark E D first approach row

      obeyed : (j : ℕ) (rule : Rule) → fails_at j rule ≡ false → ObeysAt j rule
      obeyed j rule e = (decides_obeys track mark E D first ground j (code_at approach row j) (get_or row j Stop) rule).0 (not-false _ e)

      judged_by : (j n : ℕ) → j + suc n ≡ suc mark.interval → ((i : ℕ) → i < j → AllowedAt i) → (behind : Option (ℕ × Rule)) → (AllowedAt j → Judged behind) → (o : Option Rule) → FirstPassing rule_number (fails_at j) o → Judged (looked_at j o behind)
      judged_by j n all earlier behind rest None none = rest (obeyed j touching (none touching), (obeyed j ahead (none ahead), (obeyed j service (none service), (obeyed j stopping (none stopping), (obeyed j next (none next), tt)))))
      judged_by j n all earlier behind rest (Some rule) (broken, before) = record {
        within = omega arith;
        earlier = earlier;
        before = λ other l. obeyed j other (before other l);
        broken = not_from_Decides _ (decides_obeys track mark E D first ground j (code_at approach row j) (get_or row j Stop) rule) (not-true _ broken);
      }

      judged_from : (j n : ℕ) → j + n ≡ suc mark.interval → ((i : ℕ) → i < j → AllowedAt i) → Judged (break_from (class_over track) track mark E D first approach row j n)
      judged_from j zero all earlier = λ i l. earlier i (omega arith)
      judged_from j (suc n) all earlier =
          judged_by j n all earlier _ (λ allowed. judged_from (suc j) n (omega arith) (λ i l. elim (ℕ_discrete i j) [ yes here ↦ subst AllowedAt (sym here) allowed | no before ↦ earlier i (omega arith) ])) _ (first_rule (fails_at j))

      pub row_judged : Judged (first_break (class_over track) track mark E D first approach row)
      row_judged = judged_from 0 (suc mark.interval) (omega arith) (λ i l. absurd (omega arith))
