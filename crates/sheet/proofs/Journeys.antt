-- A train that departs or advances over the records in use is one that sets out over a sheet or moves on. Assumes nothing.
use Rattle.std.proofs.Common.{◌≡◌, ℕ, ◌≤◌, List, [], length, get_or, Bool, true, false, Some, None, Ok, Option, sym, refl, ap, ◌∙◌, subst, arith}
use Rattle.std.proofs.lemmas.List.{length-take-le}
use Rattle.std.proofs.lemmas.Bool.Decides.{nat_tests}
use Rattle.codes.specs.declared.refusals.Refusal.{Refusal}
use Rattle.codes.specs.declared.refusals.Refusal.TheVariants as refusal
use Rattle.codes.specs.declared.gradients.Class.{Class}
use Rattle.codes.specs.declared.speeds.Code.{Code}
use Rattle.codes.specs.declared.speeds.Code.TheVariants.{Stop}
use Rattle.codes.specs.declared.speeds.Speed.{Speed}
use Rattle.ground.specs.declared.entries.Entry.{Entry}
use Rattle.ground.specs.Tables.{contents}
use Rattle.laws.specs.Books.{Emergencies}
use Rattle.rules.specs.declared.lines.Interval.{Interval}
use Rattle.rules.specs.Tracks.{Track, Mark}
use Rattle.rows.specs.Drawings.{lengths_of}
use Rattle.trains.specs.Braking.{Numbers}
use Rattle.driving.specs.Journeys.{Journey, Differs, SetsOff, Arrives, Moves}
use Rattle.driving.specs.Journeys.Arrives.{hears_code, hears_none}
use Rattle.driving.specs.declared.heads.Head.{Head}
use Rattle.driving.specs.Driving.{code_in, Departs, Advances}
use Rattle.entering.specs.Faults.{first}
use Rattle.entering.specs.Entering.{short}
use Rattle.sheet.specs.Sheets.{Heading, Pass, passed_row}
use Rattle.sheet.specs.Faults.{passed_bytes, step_fault}
use Rattle.sheet.specs.Reads.{way_fault}
use Rattle.sheet.specs.Ways.{IsWay, GoesOn}
use Rattle.sheet.specs.declared.way.Way.{Way}
use Rattle.sheet.specs.States.{passed_heading, running_heading, pass_of, passed_of, journey_of}
use Rattle.sheet.specs.Promises.{RunsOver, MovesOn, Stepped}
use Rattle.sheet.specs.declared.passed.PassedSheet.{PassedSheet}
use Rattle.sheet.specs.declared.running.RunningSheet.{RunningSheet}
use Rattle.sheet.specs.declared.reports.Report.{Report}

-- ---- neither restrictions nor, at the start, intervals matter

abbrev over : ℕ → List ℕ → List (Entry Class) → List (Entry Speed) → Track
over start lengths gradients restrictions = record { start = start; lengths = lengths; gradients = gradients; restrictions = restrictions }

module _ (start : ℕ) (gradients : List (Entry Class)) (mark : Mark) (E : Emergencies) (row : List Code) where
  pub sets_off_over : (before after : List ℕ) (restrictions others : List (Entry Speed)) (train : Numbers) (journey : Journey) (paces : List ℕ)
      → SetsOff (over start before gradients restrictions) mark E row train journey paces → SetsOff (over start after gradients others) mark E row train journey paces
  sets_off_over before after restrictions others train journey paces sets_off =
      record { position = sets_off.position; told = sets_off.told; hears = sets_off.hears; tells = sets_off.tells }

  module _ (lengths : List ℕ) (restrictions others : List (Entry Speed)) where
    differs_over : (told : Code) (p i : ℕ) → Differs (over start lengths gradients others) mark row told p i → Differs (over start lengths gradients restrictions) mark row told p i
    differs_over told p i differs = record { within = differs.within; begins = differs.begins; other = differs.other }

  module _ (lengths : List ℕ) (restrictions others : List (Entry Speed)) where
    arrives_over : (told : Code) (train : Numbers) (journey : Journey) (paces : List ℕ)
        → Arrives (over start lengths gradients restrictions) mark E row told train journey paces → Arrives (over start lengths gradients others) mark E row told train journey paces
    arrives_over told train journey paces (hears_code i differs first tells hears) =
        hears_code i (differs_over lengths others restrictions told _ i differs) (λ k before here. first k before (differs_over lengths restrictions others told _ k here)) tells hears
    arrives_over told train journey paces (hears_none none tells same) =
        hears_none (λ i here. none i (differs_over lengths restrictions others told _ i here)) tells same

    pub moves_over : (before after : Journey) (paces : List ℕ)
        → Moves (over start lengths gradients restrictions) mark E row before after paces → Moves (over start lengths gradients others) mark E row before after paces
    moves_over before after paces moves = record {
      position = moves.position;
      rolled = moves.rolled;
      rolls = moves.rolls;
      heard = moves.heard;
      arrives = arrives_over before.told moves.rolled after moves.heard moves.arrives;
      tells = moves.tells;
    }

-- ---- what a step reads
module _ (heading : Heading) (intervals : List Interval) (gradients : List (Entry Class)) (row : List ℕ) (pass : Pass) where
  pub row_long : way_fault heading gradients row pass ≡ None → 64 ≤ length row
  row_long none = grind (arith, nat_tests)

  pub no_step_fault : first (short intervals heading.intervals) refusal.Size None ≡ None → way_fault heading gradients row pass ≡ None → step_fault heading intervals gradients row pass ≡ None
  no_step_fault lent none = grind (arith, nat_tests)

-- ---- over a sheet
module _ {B T : Type 0} (E : Emergencies) (numbers : T → Numbers) (gradients ground : List (Entry Class)) (row bytes : List ℕ) where
  pub runs_over : (head : Head) (after : T) (sheet : PassedSheet B) (train : T) (first : Code)
      → ground ≡ contents gradients (passed_heading sheet).gradients → bytes ≡ passed_bytes (pass_of sheet) row → first ≡ code_in bytes 0
      → Departs E (passed_heading sheet).start ground first (numbers train) head (numbers after)
      → RunsOver E numbers sheet train gradients row (record { passed = sheet; train = after; head = head })
  runs_over head after sheet train first ground-is bytes-is first-is departs =
      let start = (passed_heading sheet).start in
      let tells : get_or (passed_row (pass_of sheet) row) 0 Stop ≡ first = sym (first-is ∙ ap (λ (b : List ℕ). code_in b 0) bytes-is) in
      let departs-over : Departs E start (contents gradients (passed_heading sheet).gradients) first (numbers train) head (numbers after) =
      subst (λ (g : List (Entry Class)). Departs E start g first (numbers train) head (numbers after)) ground-is departs in
      record {
        passed = refl;
        sets_off = λ lengths restrictions.
            sets_off_over start (contents gradients (passed_heading sheet).gradients) (pass_of sheet).mark E (passed_row (pass_of sheet) row) [] lengths restrictions restrictions _ _ _
            (departs-over [] restrictions (pass_of sheet).mark (passed_row (pass_of sheet) row) tells);
      }

  pub moves_on : (sheet after : RunningSheet B T) (intervals line : List Interval) → line ≡ contents intervals (running_heading sheet).intervals
      → ground ≡ contents gradients (running_heading sheet).gradients → bytes ≡ passed_bytes (pass_of (passed_of sheet)) row → 64 ≤ length row
      → passed_of after ≡ passed_of sheet → Advances E (running_heading sheet).start line ground bytes (journey_of numbers sheet) (journey_of numbers after)
      → MovesOn E numbers sheet intervals gradients row after
  moves_on sheet after intervals line line-is ground-is bytes-is long same advances =
      let start = (running_heading sheet).start in
      let drawn-line = contents intervals (running_heading sheet).intervals in
      let drawn-ground = contents gradients (running_heading sheet).gradients in
      let pass = pass_of (passed_of sheet) in
      let before = journey_of numbers sheet in
      let there = journey_of numbers after in
      let by-line : Advances E start drawn-line ground bytes before there = subst (λ (l : List Interval). Advances E start l ground bytes before there) line-is advances in
      let by-ground : Advances E start drawn-line drawn-ground bytes before there = subst (λ (g : List (Entry Class)). Advances E start drawn-line g bytes before there) ground-is by-line in
      let by_row : Advances E start drawn-line drawn-ground (passed_bytes pass row) before there = subst (λ (b : List ℕ). Advances E start drawn-line drawn-ground b before there) bytes-is by-ground in
      let near = sheet.passed.fixed.near in
      let moved = by_row [] pass.mark (sym (length-take-le pass.mark.interval row (omega arith))) in
      record {
        passed = same;
        paces = moved.0;
        moves = λ restrictions. moves_over start drawn-ground pass.mark E (passed_row pass row) (lengths_of drawn-line) [] restrictions before there moved.0 moved.1;
      }

-- a train that goes on, where no refusal is due, has made its step
module _ {B T : Type 0} (E : Emergencies) (numbers : T → Numbers) where
  pub stepped : (fault : Option Refusal) (still : Bool) (sheet after : RunningSheet B T) (intervals line : List Interval) (gradients : List (Entry Class)) (row : List ℕ)
      (way : Way) (report : Report) → fault ≡ None → line ≡ contents intervals (running_heading sheet).intervals
      → IsWay (running_heading sheet) gradients row (pass_of (passed_of sheet)) way → 64 ≤ length row
      → GoesOn E numbers still sheet line way report after → Stepped E numbers fault still sheet intervals gradients row (Ok report) after
  stepped (Some why) still sheet after intervals line gradients row way report none line-is is_way long goes = cc
  stepped None true sheet after intervals line gradients row way report none line-is is_way long goes = (ap (λ r. Ok r) goes.0, goes.1)
  stepped None false sheet after intervals line gradients row way report none line-is is_way long goes =
      (ap (λ r. Ok r) goes.0, moves_on E numbers gradients way.gradients.now row way.row.now sheet after intervals line line-is is_way.ground is_way.bytes long goes.1 goes.2)
