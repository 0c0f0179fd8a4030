-- What entering and striking promise is what runs say of them. Assumes nothing.
use Rattle.std.proofs.Common.{◌≡◌, ℕ, min, cond, List, [], ◌++◌, length, take, drop, set, ℤ, is_ok, Some, None, Ok, Err, Option, Result, sym, refl, ap, ◌∙◌, subst, arith}
use Rattle.codes.specs.declared.refusals.Refusal.{Refusal}
use Rattle.codes.specs.Refusals.{told, notice}
use Rattle.laws.specs.Books.{Emergencies, Services}
use Rattle.entering.specs.Faults.{ruled}
use Rattle.codes.specs.declared.gradients.Class.{Class}
use Rattle.codes.specs.declared.speeds.Speed.{Speed}
use Rattle.ground.specs.declared.entries.Entry.{Entry}
use Rattle.rules.specs.declared.lines.Interval.{Interval}
use Rattle.rules.specs.declared.lines.StopMark.{StopMark}
use Rattle.sheet.specs.Sheets.{Heading, Tables, Sheet, drawing}
use Rattle.sheet.specs.Changes.{more_intervals, more_gradients, more_restrictions, more_marks, fewer_gradients, fewer_restrictions, with_intervals, with_gradients, with_restrictions, with_marks}
use Rattle.sheet.specs.Promises.{Changed}
use Rattle.runs.specs.Orders.{Lent, Order, refusing, done, refused}
use Rattle.runs.specs.Orders.Order.{enter_interval, enter_gradient, enter_restriction, enter_mark, strike_gradient, strike_restriction}
use Rattle.runs.specs.Runs.{Ruled, Performs}
use Rattle.ground.specs.Tables.{closed_up}
use Rattle.entering.specs.Entering.{most_intervals, most_gradients, most_restrictions, most_marks, room_fault, interval_fault, gradient_fault, restriction_fault, mark_fault, interval_of, gradient_of, restriction_of, mark_of}
use Rattle.entering.proofs.Rulings.{no_fault_from_gives, room_from_none}
use Rattle.sheet.specs.Faults.{strike_fault}
use Rattle.std.proofs.lemmas.List.{take-append-drop}
use Rattle.std.proofs.lemmas.Bool.Decides.{nat_tests}
use Rattle.replay.proofs.Parts.{take_within, drop_within, set_part, closed_up_part}
use Rattle.replay.specs.Meaning.{outcome_told, Performed}
use Rattle.replay.proofs.Ruling.{clash, call}

-- what was written to the lent part of a table was written to the table
module _ {X : Type 0} (lent n : ℕ) (xs : List X) (fault : List X → Option Refusal) (written : List X → List X) {grown before after : Heading} {left : List X} where
  whole : (r : Result (Unit {0}) Refusal) → (fault (take lent xs) ≡ None → written (take lent xs) ++ drop lent xs ≡ written xs)
      → Changed (fault (take lent xs)) grown (written (take lent xs)) before (take lent xs) r after left
      → Changed (fault (take lent xs)) grown (written xs) before xs r after (left ++ drop lent xs)
  whole r writes h = record { answer = h.answer; heading = h.heading; holds = go r h.answer h.holds }
    where
      go : (r : Result (Unit {0}) Refusal) → told r ≡ ruled (fault (take lent xs)) tt → left ≡ cond (is_ok r) (written (take lent xs)) (take lent xs)
          → left ++ drop lent xs ≡ cond (is_ok r) (written xs) xs
      go (Ok u) e b = ap (λ ys. ys ++ drop lent xs) b ∙ writes (no_fault_from_gives (fault (take lent xs)) tt u e).0
      go (Err w) e b = ap (λ ys. ys ++ drop lent xs) b ∙ take-append-drop lent xs

  changed_whole : (r : Result (Unit {0}) Refusal) → n ≡ min lent (length xs)
      → (fault (take lent xs) ≡ None → written (take lent xs) ++ drop lent xs ≡ written xs)
      → Changed (fault (take n xs)) grown (written (take n xs)) before (take n xs) r after left
      → Changed (fault (take lent xs)) grown (written xs) before xs r after (left ++ drop n xs)
  changed_whole r room writes h =
      let part : take n xs ≡ take lent xs = ap (λ m. take m xs) room ∙ take_within lent xs in
      let rest : drop n xs ≡ drop lent xs = ap (λ m. drop m xs) room ∙ drop_within lent xs in
      subst (λ ys. Changed (fault (take lent xs)) grown (written xs) before xs r after (left ++ ys)) (sym rest)
      (whole r writes (subst (λ ys. Changed (fault ys) grown (written ys) before ys r after left) part h))

-- a record goes behind those in use, or one of those in use goes
module _ {X : Type 0} (lent : ℕ) (xs : List X) (count : ℕ) where
  enters_part : (limit : ℕ) (later : Option Refusal) (x : X) → room_fault (take lent xs) count limit later ≡ None → set (take lent xs) count x ++ drop lent xs ≡ set xs count x
  enters_part limit later x e = set_part lent xs count x (room_from_none (take lent xs) count limit later e).0

  strikes_part : (place : ℕ) → strike_fault (take lent xs) count place ≡ None → closed_up (take lent xs) count place ++ drop lent xs ≡ closed_up xs count place
  strikes_part place e = closed_up_part lent xs count place (grind (arith, nat_tests))

-- all of a sheet but its heading and one table is fixed: build makes the sheet from these two
module _ {X : Type 0} (E : Emergencies) (D : Services) (o : Order) (build : Heading → List X → Sheet)
    {f : Option Refusal} {grown before after : Heading} {written table left : List X} where
  changed : (r : Result (Unit {0}) Refusal) → Changed f grown written before table r after left
      → ((n : ℕ × List ℕ) → refusing o n ≡ refused n)
      → Performs E D (build before table) o done [] (build grown written)
      → Ruled E D (build before table) o f (outcome_told (told r)) [] (build after left)
  changed r h refusal performs = go f r h.answer h.heading h.holds
    where
      go : (f : Option Refusal) (r : Result (Unit {0}) Refusal) → told r ≡ ruled f tt → after ≡ cond (is_ok r) grown before → left ≡ cond (is_ok r) written table
          → Ruled E D (build before table) o f (outcome_told (told r)) [] (build after left)
      go None (Ok u) e a b =
          subst (λ (s : Sheet). Performs E D (build before table) o done [] s) (sym (ap (λ h. build h left) a ∙ ap (build grown) b)) performs
      go None (Err w) e a b = clash (cc)
      go (Some w) (Ok u) e a b = clash (cc)
      go (Some w) (Err v) e a b = let same : notice v ≡ notice w = cc in
          (ap refused same ∙ sym (refusal (notice w)), refl, ap (λ h. build h left) a ∙ ap (build before) b)

-- an order that changes one table, of which the first n records are lent
module _ {X : Type 0} (E : Emergencies) (D : Services) (o : Order) (build : Heading → List X → Sheet) (lent n : ℕ) (xs : List X)
    (fault : List X → Option Refusal) (written : List X → List X) {grown before after : Heading} {left : List X} where
  changed_part : (r : Result (Unit {0}) Refusal) → n ≡ min lent (length xs)
      → Changed (fault (take n xs)) grown (written (take n xs)) before (take n xs) r after left
      → (fault (take lent xs) ≡ None → written (take lent xs) ++ drop lent xs ≡ written xs)
      → ((n : ℕ × List ℕ) → refusing o n ≡ refused n)
      → Performs E D (build before xs) o done [] (build grown (written xs))
      → Ruled E D (build before xs) o (fault (take lent xs)) (outcome_told (told r)) [] (build after (left ++ drop n xs))
  changed_part r room h writes refusal performs = changed E D o build r (changed_whole lent n xs fault written r room writes h) refusal performs

-- ---- the six orders
abbrev open_on : Heading → Tables → Sheet
open_on heading tables = record { heading = heading; tables = tables; phase = drawing }

module _ (E : Emergencies) (D : Services) (lent : Lent) (tables : Tables) (before : Heading) {after : Heading} where
  pub enters_interval : (number metres n : ℕ) (r : Result (Unit {0}) Refusal) {left : List Interval} → n ≡ min lent.intervals (length tables.intervals)
      → Changed (interval_fault (take n tables.intervals) before.intervals number metres) (more_intervals before) (set (take n tables.intervals) before.intervals (interval_of number metres)) before (take n tables.intervals) r after left
      → Performed E D (open_on before tables) (call lent (enter_interval number metres)) (outcome_told (told r)) (open_on after (with_intervals (left ++ drop n tables.intervals) tables))
  enters_interval number metres n r room h = record {
    paces = [];
    does = changed_part E D (enter_interval number metres) (λ heading xs. open_on heading (with_intervals xs tables)) lent.intervals n tables.intervals
        (λ xs. interval_fault xs before.intervals number metres) (λ xs. set xs before.intervals (interval_of number metres))
        r room h (enters_part lent.intervals tables.intervals before.intervals most_intervals _ _) (λ _. refl) (refl, refl, refl);
  }

  pub enters_gradient : (from to : ℕ) (faldtal : ℤ) (n : ℕ) (r : Result (Unit {0}) Refusal) {left : List (Entry Class)} → n ≡ min lent.gradients (length tables.gradients)
      → Changed (gradient_fault (take n tables.gradients) before.gradients from to faldtal) (more_gradients before) (set (take n tables.gradients) before.gradients (gradient_of from to faldtal)) before (take n tables.gradients) r after left
      → Performed E D (open_on before tables) (call lent (enter_gradient from to faldtal)) (outcome_told (told r)) (open_on after (with_gradients (left ++ drop n tables.gradients) tables))
  enters_gradient from to faldtal n r room h = record {
    paces = [];
    does = changed_part E D (enter_gradient from to faldtal) (λ heading xs. open_on heading (with_gradients xs tables)) lent.gradients n tables.gradients
        (λ xs. gradient_fault xs before.gradients from to faldtal) (λ xs. set xs before.gradients (gradient_of from to faldtal))
        r room h (enters_part lent.gradients tables.gradients before.gradients most_gradients _ _) (λ _. refl) (refl, refl, refl);
  }

  pub enters_restriction : (from to kmh n : ℕ) (r : Result (Unit {0}) Refusal) {left : List (Entry Speed)} → n ≡ min lent.restrictions (length tables.restrictions)
      → Changed (restriction_fault (take n tables.restrictions) before.restrictions from to kmh) (more_restrictions before) (set (take n tables.restrictions) before.restrictions (restriction_of from to kmh)) before (take n tables.restrictions) r after left
      → Performed E D (open_on before tables) (call lent (enter_restriction from to kmh)) (outcome_told (told r)) (open_on after (with_restrictions (left ++ drop n tables.restrictions) tables))
  enters_restriction from to kmh n r room h = record {
    paces = [];
    does = changed_part E D (enter_restriction from to kmh) (λ heading xs. open_on heading (with_restrictions xs tables)) lent.restrictions n tables.restrictions
        (λ xs. restriction_fault xs before.restrictions from to kmh) (λ xs. set xs before.restrictions (restriction_of from to kmh))
        r room h (enters_part lent.restrictions tables.restrictions before.restrictions most_restrictions _ _) (λ _. refl) (refl, refl, refl);
  }

  pub enters_mark : (number position danger n : ℕ) (r : Result (Unit {0}) Refusal) {left : List StopMark} → n ≡ min lent.marks (length tables.marks)
      → Changed (mark_fault (take n tables.marks) before.marks number position danger) (more_marks before) (set (take n tables.marks) before.marks (mark_of number position danger)) before (take n tables.marks) r after left
      → Performed E D (open_on before tables) (call lent (enter_mark number position danger)) (outcome_told (told r)) (open_on after (with_marks (left ++ drop n tables.marks) tables))
  enters_mark number position danger n r room h = record {
    paces = [];
    does = changed_part E D (enter_mark number position danger) (λ heading xs. open_on heading (with_marks xs tables)) lent.marks n tables.marks
        (λ xs. mark_fault xs before.marks number position danger) (λ xs. set xs before.marks (mark_of number position danger))
        r room h (enters_part lent.marks tables.marks before.marks most_marks _ _) (λ _. refl) (refl, refl, refl);
  }

  pub strikes_gradient : (place n : ℕ) (r : Result (Unit {0}) Refusal) {left : List (Entry Class)} → n ≡ min lent.gradients (length tables.gradients)
      → Changed (strike_fault (take n tables.gradients) before.gradients place) (fewer_gradients before) (closed_up (take n tables.gradients) before.gradients place) before (take n tables.gradients) r after left
      → Performed E D (open_on before tables) (call lent (strike_gradient place)) (outcome_told (told r)) (open_on after (with_gradients (left ++ drop n tables.gradients) tables))
  strikes_gradient place n r room h = record {
    paces = [];
    does = changed_part E D (strike_gradient place) (λ heading xs. open_on heading (with_gradients xs tables)) lent.gradients n tables.gradients
        (λ xs. strike_fault xs before.gradients place) (λ xs. closed_up xs before.gradients place)
        r room h (strikes_part lent.gradients tables.gradients before.gradients place) (λ _. refl) (refl, refl, refl);
  }

  pub strikes_restriction : (place n : ℕ) (r : Result (Unit {0}) Refusal) {left : List (Entry Speed)} → n ≡ min lent.restrictions (length tables.restrictions)
      → Changed (strike_fault (take n tables.restrictions) before.restrictions place) (fewer_restrictions before) (closed_up (take n tables.restrictions) before.restrictions place) before (take n tables.restrictions) r after left
      → Performed E D (open_on before tables) (call lent (strike_restriction place)) (outcome_told (told r)) (open_on after (with_restrictions (left ++ drop n tables.restrictions) tables))
  strikes_restriction place n r room h = record {
    paces = [];
    does = changed_part E D (strike_restriction place) (λ heading xs. open_on heading (with_restrictions xs tables)) lent.restrictions n tables.restrictions
        (λ xs. strike_fault xs before.restrictions place) (λ xs. closed_up xs before.restrictions place)
        r room h (strikes_part lent.restrictions tables.restrictions before.restrictions place) (λ _. refl) (refl, refl, refl);
  }
