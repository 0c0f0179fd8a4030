-- The answers to the questions of the table, worked out. Assumes nothing.
use Rattle.std.proofs.Common.{ℕ, zero, suc, ◌-◌, Bool, true, false, cond, not, ◌&&◌, eqb, ltb, List, [], ◌∷◌, get_or, ℤ, pos, Some, None, fold, Option}
use lib.Signed.{le_z}
use Rattle.std.specs.List.{find}
use Rattle.codes.specs.declared.speeds.Speed.{Speed}
use Rattle.codes.specs.declared.speeds.Code.{Code}
use Rattle.codes.specs.declared.speeds.Code.TheVariants.{Stop, Go}
use Rattle.codes.specs.declared.gradients.Class.{Class}
use Rattle.codes.specs.Gradients.{classes, edge}
use Rattle.ground.specs.declared.entries.Entry.{Entry}
use Rattle.ground.specs.Ground.{metre_value}
use Rattle.ground.specs.Steps.{worsened_by}
use Rattle.ground.specs.Kinds.{steepness}
use Rattle.laws.specs.Books.{Emergencies, Services}
use Rattle.books.specs.Printed.{printed_emergency, printed_service}
use Rattle.rules.specs.Tracks.{Track, Mark, begin_of}
use Rattle.rules.specs.Rules.{train_length, Rule, rules, code_at}
use Rattle.rows.specs.WorkingOut.{letter_of}
use Rattle.alfa.specs.declared.sheets.Variant.{Variant}
use Rattle.alfa.specs.declared.table.Example.{Example}
use Rattle.alfa.specs.declared.table.Example.TheVariants.{Highest, NoRow, Passes, Breaks, OfClass, NoFaldtal}
use Rattle.alfa.specs.Sheets.{track_for, mark_for}
use Rattle.alfa.proofs.Searches.{falling}
use Rattle.alfa.proofs.Tests.{obeys, allows, fits}

abbrev pub code_from : Option Speed → Code
code_from None = Stop
code_from (Some v) = Go v

abbrev pub no_speed : Option Speed → Bool
no_speed None = true
no_speed (Some v) = false

-- the first break is that of the interval looked at, else the one behind it
abbrev pub looked_at : ℕ → Option Rule → Option (ℕ × Rule) → Option (ℕ × Rule)
looked_at j None behind = behind
looked_at j (Some rule) behind = Some (j, rule)

module _ (class : ℕ → ℕ → Class) (track : Track) (mark : Mark) (E : Emergencies) (D : Services) where
  abbrev pub stops : ℕ → Bool
  stops j = no_speed (find (λ v. fits class track mark E D j (Go v)) falling)

  -- where the stop ground begins, with the intervals up to the j-th still to be looked at
  abbrev pub ground_back : ℕ → ℕ → ℕ
  ground_back zero first = first
  ground_back (suc j) first = ground_back j (cond (eqb first (suc (suc j)) && stops (suc j)) (suc j) first)

  abbrev pub ground_begin : ℕ
  ground_begin = ground_back mark.interval (suc mark.interval)

  module _ (first : ℕ) where
    -- the highest code of interval j before one with code w
    abbrev pub highest_code : ℕ → Code → Code
    highest_code j w = code_from (find (λ v. allows class track mark E D first j (Go v) w) falling)

    -- the row, with the codes of the intervals up to the n-th still to be found
    abbrev pub row_back : ℕ → List Code → List Code
    row_back zero row = row
    row_back (suc n) row = row_back n (highest_code (suc n) (get_or row 0 Stop) ∷ row)

    abbrev pub highest_row : List Code
    highest_row = row_back mark.interval []

    module _ (approach : Speed) (row : List Code) where
      -- whether interval j breaks the rule
      abbrev pub fails : ℕ → Rule → Bool
      fails j rule = not (obeys class track mark E D first j (code_at approach row j) (get_or row j Stop) rule)

      -- the first break of the n intervals from the j-th on
      abbrev pub break_from : ℕ → ℕ → Option (ℕ × Rule)
      break_from j zero = None
      break_from j (suc n) = looked_at j (find (fails j) rules) (break_from (suc j) n)

      abbrev pub first_break : Option (ℕ × Rule)
      first_break = break_from 0 (suc mark.interval)

-- the class of a stretch, from its begin and from the changes within it
abbrev pub by_changes : List (Entry Class) → ℕ → ℕ → Class
by_changes entries a b = cond (ltb a b) (fold (worsened_by steepness entries a b) (metre_value steepness entries a) entries) steepness.undrawn

-- a row of four codes
abbrev pub four : List Code → List Code
four row = get_or row 0 Stop ∷ get_or row 1 Stop ∷ get_or row 2 Stop ∷ get_or row 3 Stop ∷ []

abbrev pub verdict : Variant → Speed → List Code → Option (ℕ × Rule) → Example
verdict sheet approach row None = Passes sheet approach row
verdict sheet approach row (Some (j, rule)) = Breaks sheet approach row j rule

module _ (reckon : List (Entry Class) → ℕ → ℕ → Class) where
  abbrev pub work : Variant → Speed → Example
  work sheet approach =
      let track = track_for sheet in
      let mark = mark_for sheet in
      let class = reckon track.gradients in
      let first = ground_begin class track mark printed_emergency printed_service in
      let row = highest_row class track mark printed_emergency printed_service first in
      cond (allows class track mark printed_emergency printed_service first 0 (Go approach) (get_or row 0 Stop))
      (Highest sheet approach row (letter_of (class (begin_of track first - train_length) mark.position)) first)
      (NoRow sheet approach)

  abbrev pub judge : Variant → Speed → List Code → Example
  judge sheet approach row =
      let track = track_for sheet in
      let mark = mark_for sheet in
      let class = reckon track.gradients in
      let first = ground_begin class track mark printed_emergency printed_service in
      verdict sheet approach row (first_break class track mark printed_emergency printed_service first approach row)

abbrev pub class_told : ℤ → Option Class → Example
class_told f None = NoFaldtal f
class_told f (Some k) = OfClass f k

abbrev pub classify : ℤ → Example
classify f = cond (le_z f (pos 350)) (class_told f (find (λ k. le_z (edge k) f) classes)) (NoFaldtal f)

-- the line with the same question, and the answer worked out
abbrev pub solve : (List (Entry Class) → ℕ → ℕ → Class) → Example → Example
solve reckon (Highest sheet approach row letter place) = work reckon sheet approach
solve reckon (NoRow sheet approach) = work reckon sheet approach
solve reckon (Passes sheet approach row) = judge reckon sheet approach (four row)
solve reckon (Breaks sheet approach row interval rule) = judge reckon sheet approach (four row)
solve reckon (OfClass f k) = classify f
solve reckon (NoFaldtal f) = classify f
