-- Each line of the table, worked out, holds by the rules; and the table is its lines worked out. Assumes nothing.
use Rattle.std.proofs.Common.{◌≡◌, ℕ, ◌-◌, Bool, true, false, cond, ltb, List, [], ◌∷◌, map, length, get_or, ℤ, pos, ◌≤ℤ◌, Some, None, Decides, fold, Option, sym, refl, subst, true≢false, arith, ltb-false, ltb-true}
use mathlib.Core.Path.{fun_ext}
use lib.Signed.{le_z}
use Rattle.std.specs.List.{AllByRecursion, find}
use Rattle.std.proofs.lemmas.Int.{ints}
use Rattle.codes.specs.declared.speeds.Speed.{Speed}
use Rattle.codes.specs.declared.speeds.Code.{Code}
use Rattle.codes.specs.declared.speeds.Code.TheVariants.{Stop, Go}
use Rattle.codes.specs.declared.gradients.Class.{Class}
use Rattle.codes.specs.declared.gradients.Class.TheVariants.{C11}
use Rattle.codes.specs.Gradients.{number, classes, edge}
use Rattle.ground.specs.declared.entries.Entry.{Entry}
use Rattle.ground.specs.Ground.{values_at, worst_of, metre_value, stretch_value}
use Rattle.ground.specs.Steps.{worsened_by}
use Rattle.ground.specs.Kinds.{steepness}
use Rattle.ground.specs.BothKinds.{steepness_lawful}
use Rattle.ground.proofs.Laws.{stretches}
use Rattle.ground.proofs.Changes.{all_passed}
use Rattle.books.specs.Printed.{beside, printed_emergency, printed_service}
use Rattle.books.specs.PrintedLaws.{printed_distances, printed_laws}
use Rattle.rules.specs.Tracks.{Track, Mark, Stands, moved_on, begin_of, class_over}
use Rattle.rules.specs.Rules.{train_length, Rule, Allowed}
use Rattle.rows.specs.declared.letters.StopLetter.{StopLetter}
use Rattle.rows.specs.Finding.{FoundFrom}
use Rattle.rows.specs.WorkingOut.{letter_of, FirstOfGround}
use Rattle.rows.proofs.Higher.{approach_allowed, found_highest}
use Rattle.alfa.specs.declared.sheets.Variant.{Variant}
use Rattle.alfa.specs.declared.table.Example.{Example}
use Rattle.alfa.specs.declared.table.Example.TheVariants.{Highest, NoRow, Passes, Breaks, OfClass, NoFaldtal}
use Rattle.alfa.specs.Sheets.{track_for, mark_for}
use Rattle.alfa.specs.Examples.{Holds}
use Rattle.alfa.specs.Table.{table}
use Rattle.codes.proofs.Edges.{edge_low}
use Rattle.codes.proofs.Firsts.{FirstPassing, first_class}
use Rattle.alfa.proofs.Tests.{decides_allows}
use Rattle.alfa.proofs.Solving.{ground_begin, highest_row, by_changes, work, four, verdict, judge, class_told, classify, solve}
use Rattle.alfa.proofs.Rows.{Judged, begins_ground, row_found, row_judged}

-- ---- the sheet

stands : (sheet : Variant) → Stands (track_for sheet) (mark_for sheet)
unfolding moved_on
stands sheet = record { first = omega arith; last = omega arith; begins = omega arith; ends = omega arith }

module _ (sheet : Variant) (approach : Speed) where
  abbrev track : Track
  track = track_for sheet

  abbrev mark : Mark
  mark = mark_for sheet

  abbrev first : ℕ
  first = ground_begin (class_over track) track mark printed_emergency printed_service

  abbrev row : List Code
  row = highest_row (class_over track) track mark printed_emergency printed_service first

  abbrev letter : StopLetter
  letter = letter_of (class_over track (begin_of track first - train_length) mark.position)

  ground : FirstOfGround track mark printed_emergency printed_service first
  ground = begins_ground track mark printed_emergency printed_service printed_distances (stands sheet)

  found : FoundFrom track mark printed_emergency printed_service 0 row
  found = row_found track mark printed_emergency printed_service first ground

  -- the row found is the highest where the approach is allowed before it, and else no row is lawful
  worked_by : (b : Bool) → Decides b (Allowed track mark printed_emergency printed_service 0 (Go approach) (get_or row 0 Stop)) → Holds (cond b (Highest sheet approach row letter first) (NoRow sheet approach))
  worked_by true d = record {
    highest = found_highest printed_emergency printed_service printed_laws track mark row found approach (d.0 refl);
    ground = ground;
    tells = refl;
  }
  worked_by false d = λ other lawful.
      true≢false (sym (d.1 (approach_allowed printed_emergency printed_service printed_laws track mark row found approach other lawful)))

  worked : Holds (work (stretch_value steepness) sheet approach)
  worked = worked_by _ (decides_allows track mark printed_emergency printed_service first ground 0 (Go approach) (get_or row 0 Stop))

  module _ (given : List Code) (size : length given ≡ 4) where
    judged_by : (o : Option (ℕ × Rule)) → Judged track mark printed_emergency printed_service first ground approach given o → Holds (verdict sheet approach given o)
    judged_by None allowed = record { size = size; obeys = allowed }
    judged_by (Some (j, rule)) breaks = breaks

    judged : Holds (judge (stretch_value steepness) sheet approach given)
    judged = judged_by _ (row_judged track mark printed_emergency printed_service first ground approach given)

-- ---- faldtal

module _ (f : ℤ) where
  class_by : f ≤ℤ pos 350 → (o : Option Class) → FirstPassing number (λ k. le_z (edge k) f) o → Holds (class_told f o)
  class_by high None none = λ faldtal. let below = none C11 in let low = faldtal.0 in grind (arith, ints)
  class_by high (Some k) (reached, flatter) =
      let least = edge_low k in
      let reaches : edge k ≤ℤ f = grind (arith, ints) in
      ((omega (arith, ints), high), record { reaches = reaches; flatter = λ j l. let above = flatter j l in grind (arith, ints) })

  within_or_not : (b : Bool) → le_z f (pos 350) ≡ b → Holds (cond b (class_told f (find (λ k. le_z (edge k) f) classes)) (NoFaldtal f))
  within_or_not true e = class_by (grind (arith, ints)) _ (first_class (λ k. le_z (edge k) f))
  within_or_not false e = λ faldtal. let high = faldtal.1 in grind (arith, ints)

  classified : Holds (classify f)
  classified = within_or_not (le_z f (pos 350)) refl

-- ---- any line, whatever its sheet, its approach, its row or its faldtal

solved_by_metres : (x : Example) → Holds (solve (stretch_value steepness) x)
solved_by_metres (Highest sheet approach _ _ _) = worked sheet approach
solved_by_metres (NoRow sheet approach) = worked sheet approach
solved_by_metres (Passes sheet approach asked) = judged sheet approach (four asked) refl
solved_by_metres (Breaks sheet approach asked interval rule) = judged sheet approach (four asked) refl
solved_by_metres (OfClass f k) = classified f
solved_by_metres (NoFaldtal f) = classified f

-- the class of a stretch by its changes is that by its metres
changes_or_none : (entries : List (Entry Class)) (a b : ℕ) (t : Bool) → ltb a b ≡ t → cond t (fold (worsened_by steepness entries a b) (metre_value steepness entries a) entries) steepness.undrawn ≡ stretch_value steepness entries a b
changes_or_none entries a b true e = all_passed steepness_lawful entries a b (ltb-true a b e)
changes_or_none entries a b false e = sym ((stretches steepness_lawful entries).none a b (ltb-false a b e))

same_classes : stretch_value steepness ≡ by_changes
same_classes = fun_ext (λ entries. fun_ext (λ a. fun_ext (λ b. sym (changes_or_none entries a b (ltb a b) refl))))

solved : (x : Example) → Holds (solve by_changes x)
solved x = subst (λ reckon. Holds (solve reckon x)) same_classes (solved_by_metres x)

-- ---- the table

all_solved : (xs : List Example) → AllByRecursion Holds (map (solve by_changes) xs)
all_solved [] = tt
all_solved (x ∷ xs) = (solved x, all_solved xs)

table_solved : map (solve by_changes) table ≡ table
unfolding moved_on values_at worst_of metre_value beside
table_solved = refl

pub table_holds : AllByRecursion Holds table
table_holds = subst (AllByRecursion Holds) table_solved (all_solved table)
