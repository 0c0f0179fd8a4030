-- Setting off, stepping and leaving keep a sheet and its history in step. Assumes nothing.
use Rattle.std.proofs.Common.{◌≡◌, ℕ, ◌≤◌, List, take, None, sym, refl, ap, subst, arith}
use Rattle.std.proofs.lemmas.Bool.Decides.{nat_tests as tells}
use Rattle.codes.specs.declared.gradients.Class.{Class}
use Rattle.codes.specs.Speeds.{kmh}
use Rattle.ground.specs.declared.entries.Entry.{Entry}
use Rattle.laws.specs.Books.{Emergencies, Services, Distances, Laws}
use Rattle.rules.specs.Tracks.{Mark}
use Rattle.rows.specs.Drawings.{Drawing, track_drawn}
use Rattle.trains.specs.Braking.{Numbers}
use Rattle.driving.specs.Journeys.{Journey}
use Rattle.driving.proofs.Ways.{on_set_off, on_moves, on_safe}
use Rattle.sheet.specs.Sheets.{Heading, Pass, Phase, drawing, closed, passed, running, Sheet, drawn, passed_row, in_phase}
use Rattle.sheet.specs.Faults.{set_off_fault}
use Rattle.runs.specs.Orders.{Lent, Order, Outcome, done, left}
use Rattle.runs.specs.Orders.Order.{set_off, step, leave}
use Rattle.runs.specs.Runs.{fault, told_of, Steps, DepartsIn, StepsIn, LeavesIn}
use Rattle.runs.specs.Runs.Steps.{stays, moves}
use Rattle.runs.specs.Law.{Sizes, WorkedRow, Short, Slow}
use Rattle.runs.proofs.Following.{history_on, Passing, Underway, Follows, Kept}

not_faster : (heading : Heading) (pass : Pass) (train : Numbers) (gradients : List (Entry Class)) (row : List ℕ) → set_off_fault heading gradients row pass train ≡ None
    → train.pace ≤ kmh pass.approach
not_faster heading pass train gradients row none = grind (arith, tells)

module _ (E : Emergencies) (D : Services) (distances : Distances E D) (laws : Laws E D) (sizes : Sizes) (rows : List WorkedRow) (sought : ℕ) (s : Sheet) where
  abbrev d : Drawing
  d = drawn s.heading s.tables

  -- ---- what a train under way tells is right
  module _ (pass : Pass) (journey : Journey) (way : Underway E D distances laws d sought s.tables.row pass journey) where
    abbrev passing : Passing E D distances laws d sought s.tables.row pass
    passing = way.passing

    short_told : Short (history_on s rows sought) journey.position
    short_told =
        let safe = on_safe (track_drawn d) pass.mark passing.stands E D distances laws pass.approach (passed_row pass s.tables.row) passing.lawful journey way.on in
        let danger : pass.mark.danger ≡ passing.target.danger = ap (λ (mark : Mark). mark.danger) passing.mark in
        record { mark = passing.located.mark; marks = passing.located.marks; short = omega (arith, safe.short, passing.located.danger) }

    slow_told : Slow (history_on s rows sought) journey.position journey.train.pace
    slow_told = (on_safe (track_drawn d) pass.mark passing.stands E D distances laws pass.approach (passed_row pass s.tables.row) passing.lawful journey way.on).slow

  -- ---- the three calls, by the phase
  module _ (lent : Lent) where
    abbrev Keeps : Phase → Order → Outcome → Sheet → Type 0
    Keeps phase order = Kept E D distances laws sizes rows sought (in_phase phase s) (record { lent = lent; order = order })

    -- an answer and a sheet by their equations
    keeps_from : (phase : Phase) (order : Order) (o told : Outcome) (t after : Sheet) → o ≡ told → t ≡ after → Keeps phase order told after → Keeps phase order o t
    keeps_from phase order o told t after tells is now = subst (λ p. Keeps phase order p t) (sym tells) (subst (Keeps phase order told) (sym is) now)

    pub kept_set_off : (phase : Phase) (train : Numbers) → Follows E D distances laws sizes rows sought (in_phase phase s)
        → fault (in_phase phase s) (record { lent = lent; order = set_off train }) ≡ None
        → (o : Outcome) (paces : List ℕ) (t : Sheet) → DepartsIn E D (in_phase phase s) phase train o paces t
        → Keeps phase (set_off train) o t
    kept_set_off drawing train follows none o paces t departs = absurd departs
    kept_set_off closed train follows none o paces t departs = absurd departs
    kept_set_off (passed pass) train follows none o paces t departs =
        let passing = follows.inside.1 in
        let way : Underway E D distances laws d sought s.tables.row pass departs.journey = record {
          passing = passing;
          on = on_set_off (track_drawn d) pass.mark passing.stands E D distances laws pass.approach (passed_row pass s.tables.row) passing.lawful train departs.journey paces
              departs.sets_off (not_faster s.heading pass train (take lent.gradients s.tables.gradients) (take lent.row s.tables.row) none);
        } in
        keeps_from (passed pass) (set_off train) o (told_of departs.journey) t (in_phase (running pass departs.journey) s) departs.tells departs.runs (record {
          right = (short_told pass departs.journey way, slow_told pass departs.journey way);
          drawing = refl;
          follows = record { sound = follows.sound; inside = (follows.inside.0, way) };
        })
    kept_set_off (running pass journey) train follows none o paces t departs = absurd departs

    kept_moves : (pass : Pass) (journey next : Journey) → Follows E D distances laws sizes rows sought (in_phase (running pass journey) s)
        → Underway E D distances laws d sought s.tables.row pass next
        → (o : Outcome) (t : Sheet) → o ≡ told_of next → t ≡ in_phase (running pass next) s
        → Keeps (running pass journey) step o t
    kept_moves pass journey next follows way o t tells is =
        keeps_from (running pass journey) step o (told_of next) t (in_phase (running pass next) s) tells is (record {
          right = (short_told pass next way, slow_told pass next way);
          drawing = refl;
          follows = record { sound = follows.sound; inside = (follows.inside.0, way) };
        })

    kept_steps : (pass : Pass) (journey : Journey) → Follows E D distances laws sizes rows sought (in_phase (running pass journey) s)
        → (o : Outcome) {paces : List ℕ} {t : Sheet} → Steps E (in_phase (running pass journey) s) pass journey o paces t
        → Keeps (running pass journey) step o t
    kept_steps pass journey follows o {t = t} (stays still tells is) = kept_moves pass journey journey follows follows.inside.1 o t tells is
    kept_steps pass journey follows o {paces = paces} {t = t} (moves next going moved tells is) =
        let way = follows.inside.1 in
        let passing = way.passing in
        kept_moves pass journey next follows (record {
          passing = passing;
          on = on_moves (track_drawn d) pass.mark passing.stands E D distances laws pass.approach (passed_row pass s.tables.row) passing.lawful journey next paces way.on going moved;
        }) o t tells is

    pub kept_step : (phase : Phase) → Follows E D distances laws sizes rows sought (in_phase phase s)
        → (o : Outcome) (paces : List ℕ) (t : Sheet) → StepsIn E D (in_phase phase s) phase o paces t
        → Keeps phase step o t
    kept_step drawing follows o paces t steps = absurd steps
    kept_step closed follows o paces t steps = absurd steps
    kept_step (passed pass) follows o paces t steps = absurd steps
    kept_step (running pass journey) follows o paces t steps = kept_steps pass journey follows o steps

    pub kept_leave : (phase : Phase) → Follows E D distances laws sizes rows sought (in_phase phase s)
        → (o : Outcome) (paces : List ℕ) (t : Sheet) → LeavesIn E D (in_phase phase s) phase o paces t
        → Keeps phase leave o t
    kept_leave drawing follows o paces t leaves = absurd leaves
    kept_leave closed follows o paces t leaves = absurd leaves
    kept_leave (passed pass) follows o paces t leaves =
        keeps_from (passed pass) leave o done t (in_phase closed s) leaves.told leaves.closes (record {
          right = tt;
          drawing = refl;
          follows = record { sound = follows.sound; inside = follows.inside.0 };
        })
    kept_leave (running pass journey) follows o paces t leaves =
        keeps_from (running pass journey) leave o (left journey.train) t (in_phase closed s) leaves.told leaves.closes (record {
          right = tt;
          drawing = refl;
          follows = record { sound = follows.sound; inside = follows.inside.0 };
        })
