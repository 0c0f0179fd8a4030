-- What setting off, stepping and leaving promise is what runs say of them. Assumes nothing.
use Rattle.std.proofs.Common.{◌≡◌, ℕ, ◌≤◌, Bool, true, false, List, [], ◌∷◌, take, Some, None, Ok, Err, Option, Result, sym, refl, ap, ◌∙◌, subst, arith}
use Rattle.std.proofs.lemmas.Bool.Decides.{nat_tests}
use Rattle.codes.specs.declared.refusals.Refusal.{Refusal}
use Rattle.codes.specs.declared.gradients.Class.{Class}
use Rattle.codes.specs.declared.speeds.Code.{Code}
use Rattle.codes.specs.Refusals.{notice}
use Rattle.ground.specs.declared.entries.Entry.{Entry}
use Rattle.ground.specs.Tables.{contents}
use Rattle.laws.specs.Books.{Emergencies, Services}
use Rattle.rules.specs.declared.lines.Interval.{Interval}
use Rattle.rules.specs.Tracks.{Track}
use Rattle.rows.specs.Drawings.{lengths_of}
use Rattle.rows.specs.Passing.{codes_of}
use Rattle.trains.specs.Braking.{Numbers}
use Rattle.driving.specs.Journeys.{Journey, stands, SetsOff, Moves}
use Rattle.entering.specs.Entering.{short}
use Rattle.sheet.specs.Sheets.{Tables, Pass, Sheet, passed_row, closed, passed, running}
use Rattle.sheet.specs.Faults.{row_short, row_table_size, set_off_fault, step_fault}
use Rattle.sheet.specs.States.{passed_heading, running_heading, pass_of, passed_of, train_of, journey_of, report_of}
use Rattle.sheet.specs.Promises.{SetsOut, Stepped, MovesOn, track_with}
use Rattle.sheet.specs.declared.base.Base.{Base}
use Rattle.sheet.specs.declared.closed.ClosedSheet.{ClosedSheet}
use Rattle.sheet.specs.declared.passed.PassedSheet.{PassedSheet}
use Rattle.sheet.specs.declared.running.RunningSheet.{RunningSheet}
use Rattle.sheet.specs.declared.refused.Refused.{Refused}
use Rattle.sheet.specs.declared.reports.Report.{Report}
use Rattle.runs.specs.Orders.{Lent, Outcome, done, at, left, refused, kept}
use Rattle.runs.specs.Orders.Order.{set_off, step, leave}
use Rattle.replay.specs.Meaning.{Performed}
use Rattle.runs.specs.Runs.{stays, moves, track_on, told_of}
use Rattle.replay.proofs.Ruling.{clash, on_base, call, ruled_none, ruled_some}
use Rattle.replay.proofs.Parts.{contents_part}

-- the lent part of a row table that is not short has the bytes of the passed row
row_of : (n : ℕ) (bytes : List ℕ) (pass : Pass) → row_short (take n bytes) ≡ false → pass.mark.interval ≤ row_table_size → passed_row pass (take n bytes) ≡ passed_row pass bytes
row_of n bytes pass long near = ap codes_of (contents_part n bytes pass.mark.interval (grind (arith, nat_tests)))

in_use : {X : Type 0} (n count : ℕ) (xs : List X) → short (take n xs) count ≡ false → contents (take n xs) count ≡ contents xs count
in_use n count xs long = contents_part n xs count (grind (arith, nat_tests))

-- ---- setting off
module _ {B T : Type 0} (E : Emergencies) (D : Services) (numbers : T → Numbers) (lent : Lent) (tables : Tables) (s : PassedSheet B) (train : T) where
  abbrev standing : Sheet
  standing = on_base s.base tables (passed (pass_of s))

  abbrev set_off_due : Option Refusal
  set_off_due = set_off_fault (passed_heading s) (take lent.gradients tables.gradients) (take lent.row tables.row) (pass_of s) (numbers train)

  abbrev Promised : Result (RunningSheet B T) (Refused (PassedSheet B × T)) → Type 0
  Promised r = SetsOut E numbers set_off_due s train (take lent.gradients tables.gradients) (take lent.row tables.row) r

  -- what is promised of the parts that are lent
  pub by_parts : {gradients : List (Entry Class)} {row : List ℕ} (r : Result (RunningSheet B T) (Refused (PassedSheet B × T)))
      → gradients ≡ take lent.gradients tables.gradients → row ≡ take lent.row tables.row
      → SetsOut E numbers (set_off_fault (passed_heading s) gradients row (pass_of s) (numbers train)) s train gradients row r → Promised r
  by_parts {row = row} r g b h =
      subst (λ (x : List ℕ). SetsOut E numbers (set_off_fault (passed_heading s) (take lent.gradients tables.gradients) x (pass_of s) (numbers train)) s train (take lent.gradients tables.gradients) x r) b
      (subst (λ (x : List (Entry Class)). SetsOut E numbers (set_off_fault (passed_heading s) x row (pass_of s) (numbers train)) s train x row r) g h)

  -- no table that a train is set off over was short
  set_off_fits : set_off_due ≡ None → (short (take lent.gradients tables.gradients) (passed_heading s).gradients ≡ false) × (row_short (take lent.row tables.row) ≡ false)
  set_off_fits e = (grind (arith, nat_tests), grind (arith, nat_tests))

  pub sets_off : (q : RunningSheet B T) → Promised (Ok q)
      → Performed E D standing (call lent (set_off (numbers train))) (told_of (journey_of numbers q))
      (on_base (passed_of q).base tables (running (pass_of (passed_of q)) (journey_of numbers q)))
  sets_off q h =
      let lengths = lengths_of (contents tables.intervals (passed_heading s).intervals) in
      let restrictions = contents tables.restrictions (passed_heading s).restrictions in
      let journey = journey_of numbers q in
      let fits = set_off_fits h.0 in
      let over = h.1.sets_off lengths restrictions in
      let track : track_with (passed_heading s) lengths (take lent.gradients tables.gradients) restrictions ≡ track_on standing =
      ap (λ (xs : List (Entry Class)). record { start = s.base.start; lengths = lengths; gradients = xs; restrictions = restrictions })
      (in_use lent.gradients (passed_heading s).gradients tables.gradients fits.0) in
      let row = row_of lent.row tables.row (pass_of s) fits.1 s.fixed.near in
      record {
        paces = journey.train.pace ∷ [];
        does = ruled_none E D standing (set_off (numbers train)) set_off_due (told_of journey) (journey.train.pace ∷ []) _ h.0
            (record {
              journey = journey;
              sets_off = subst (λ (x : List Code). SetsOff (track_on standing) (pass_of s).mark E x (numbers train) journey (journey.train.pace ∷ [])) row
                  (subst (λ (x : Track). SetsOff x (pass_of s).mark E (passed_row (pass_of s) (take lent.row tables.row)) (numbers train) journey (journey.train.pace ∷ [])) track over);
              tells = refl;
              runs = ap (λ (u : PassedSheet B). on_base u.base tables (running (pass_of u) journey)) h.1.passed;
            });
      }

  pub sets_off_not : (x : Refused (PassedSheet B × T)) → Promised (Err x)
      → Performed E D standing (call lent (set_off (numbers train))) (kept (numbers x.sheet.1) (notice x.why)) (on_base x.sheet.0.base tables (passed (pass_of x.sheet.0)))
  sets_off_not x h =
      record {
        paces = [];
        does = ruled_some E D standing (set_off (numbers train)) set_off_due (kept (numbers x.sheet.1) (notice x.why)) _ x.why h.0
            (ap (λ (u : PassedSheet B × T). kept (numbers u.1) (notice x.why)) h.1)
            (ap (λ (u : PassedSheet B × T). on_base u.0.base tables (passed (pass_of u.0))) h.1);
      }

-- ---- stepping
abbrev pub outcome_at : Report → Outcome
outcome_at report = at report.position report.pace report.stands

module _ {B T : Type 0} (E : Emergencies) (D : Services) (numbers : T → Numbers) (lent : Lent) (tables : Tables) where
  abbrev pub under_way : RunningSheet B T → Sheet
  under_way s = on_base (passed_of s).base tables (running (pass_of (passed_of s)) (journey_of numbers s))

  abbrev step_due : RunningSheet B T → Option Refusal
  step_due s =
      step_fault (running_heading s) (take lent.intervals tables.intervals) (take lent.gradients tables.gradients) (take lent.row tables.row) (pass_of (passed_of s))

  abbrev SteppedBy : Option Refusal → Bool → RunningSheet B T → Result Report Refusal → RunningSheet B T → Type 0
  SteppedBy due still s r t =
      Stepped E numbers due still s (take lent.intervals tables.intervals) (take lent.gradients tables.gradients) (take lent.row tables.row) r t

  -- what is promised of the parts that are lent
  pub stepped_by_parts : {intervals : List Interval} {gradients : List (Entry Class)} {row : List ℕ} (s : RunningSheet B T) (r : Result Report Refusal) (t : RunningSheet B T)
      → intervals ≡ take lent.intervals tables.intervals → gradients ≡ take lent.gradients tables.gradients → row ≡ take lent.row tables.row
      → Stepped E numbers (step_fault (running_heading s) intervals gradients row (pass_of (passed_of s))) (stands (journey_of numbers s)) s intervals gradients row r t
      → SteppedBy (step_due s) (stands (journey_of numbers s)) s r t
  stepped_by_parts {gradients = gradients} {row = row} s r t i g b h =
      let I = take lent.intervals tables.intervals in
      let G = take lent.gradients tables.gradients in
      subst (λ (x : List ℕ). Stepped E numbers (step_fault (running_heading s) I G x (pass_of (passed_of s))) (stands (journey_of numbers s)) s I G x r t) b
      (subst (λ (x : List (Entry Class)). Stepped E numbers (step_fault (running_heading s) I x row (pass_of (passed_of s))) (stands (journey_of numbers s)) s I x row r t) g
      (subst (λ (x : List Interval). Stepped E numbers (step_fault (running_heading s) x gradients row (pass_of (passed_of s))) (stands (journey_of numbers s)) s x gradients row r t) i h))

  -- one step, answered by an outcome; the passed sheet stays what it was
  pub record Answers (s : RunningSheet B T) (outcome : Outcome) (t : RunningSheet B T) : Type 0 where
    pub performed : Performed E D (under_way s) (call lent step) outcome (under_way t)
    pub passed : passed_of t ≡ passed_of s

  -- no table that a train steps over was short
  record Long (s : RunningSheet B T) : Type 0 where
    intervals : short (take lent.intervals tables.intervals) (running_heading s).intervals ≡ false
    gradients : short (take lent.gradients tables.gradients) (running_heading s).gradients ≡ false
    row : row_short (take lent.row tables.row) ≡ false

  long : (s : RunningSheet B T) → step_due s ≡ None → Long s
  long s e = record { intervals = grind (arith, nat_tests); gradients = grind (arith, nat_tests); row = grind (arith, nat_tests) }

  steps_on : (s t : RunningSheet B T) → step_due s ≡ None → stands (journey_of numbers s) ≡ false
      → MovesOn E numbers s (take lent.intervals tables.intervals) (take lent.gradients tables.gradients) (take lent.row tables.row) t
      → Answers s (told_of (journey_of numbers t)) t
  steps_on s t e moving h =
      let fits = long s e in
      let h0 = running_heading s in
      let pass = pass_of (passed_of s) in
      let restrictions = contents tables.restrictions h0.restrictions in
      let lent_row = passed_row pass (take lent.row tables.row) in
      let over = h.moves restrictions in
      let track : track_with h0 (lengths_of (contents (take lent.intervals tables.intervals) h0.intervals)) (take lent.gradients tables.gradients) restrictions ≡ track_on (under_way s) =
      (ap (λ (xs : List Interval). track_with h0 (lengths_of xs) (take lent.gradients tables.gradients) restrictions) (in_use lent.intervals h0.intervals tables.intervals fits.intervals)
      ∙ ap (λ (xs : List (Entry Class)). record { start = h0.start; lengths = lengths_of (contents tables.intervals h0.intervals); gradients = xs; restrictions = restrictions })
      (in_use lent.gradients h0.gradients tables.gradients fits.gradients)) in
      let row = row_of lent.row tables.row pass fits.row (passed_of s).fixed.near in
      record {
        passed = h.passed;
        performed = record {
          paces = h.paces;
          does = ruled_none E D (under_way s) step (step_due s) (told_of (journey_of numbers t)) h.paces (under_way t) e
              (moves (journey_of numbers t) moving
              (subst (λ (x : List Code). Moves (track_on (under_way s)) pass.mark E x (journey_of numbers s) (journey_of numbers t) h.paces) row
              (subst (λ (x : Track). Moves x pass.mark E lent_row (journey_of numbers s) (journey_of numbers t) h.paces) track over))
              refl
              (ap (λ (u : PassedSheet B). on_base u.base tables (running (pass_of u) (journey_of numbers t))) h.passed));
        };
      }

  pub steps : (s t : RunningSheet B T) (report : Report)
      → SteppedBy (step_due s) (stands (journey_of numbers s)) s (Ok report) t → Answers s (outcome_at report) t
  steps s t report h = go (step_due s) (stands (journey_of numbers s)) refl refl h
    where
      told_same : (j : Journey) → ◌≡◌ {A = Result Report Refusal} (Ok report) (Ok (report_of j)) → outcome_at report ≡ told_of j
      told_same j e = let same : report ≡ report_of j = cc in ap outcome_at same

      go : (o : Option Refusal) (b : Bool) → step_due s ≡ o → stands (journey_of numbers s) ≡ b → SteppedBy o b s (Ok report) t → Answers s (outcome_at report) t
      go (Some w) b e f h = clash (let k = h.0 in cc)
      go None true e f h = record {
        passed = ap passed_of h.1;
        performed = record { paces = []; does = ruled_none E D (under_way s) step (step_due s) (outcome_at report) [] (under_way t) e (stays f (told_same (journey_of numbers s) h.0) (ap under_way h.1)) };
      }
      go None false e f h = subst (λ (o : Outcome). Answers s o t) (sym (told_same (journey_of numbers t) h.0)) (steps_on s t e f h.1)

  pub steps_not : (s t : RunningSheet B T) (why : Refusal) → SteppedBy (step_due s) (stands (journey_of numbers s)) s (Err why) t → Answers s (refused (notice why)) t
  steps_not s t why h = go (step_due s) (stands (journey_of numbers s)) refl h
    where
      go : (o : Option Refusal) (b : Bool) → step_due s ≡ o → SteppedBy o b s (Err why) t → Answers s (refused (notice why)) t
      go (Some w) b e h = let k = h.0 in let same : why ≡ w = cc in record {
        passed = ap passed_of h.1;
        performed = record { paces = []; does = ruled_some E D (under_way s) step (step_due s) (refused (notice why)) (under_way t) w e (ap (λ (x : Refusal). refused (notice x)) same) (ap under_way h.1) };
      }
      go None true e h = clash (let k = h.0 in cc)
      go None false e h = clash (let k = h.0 in cc)

  -- ---- leaving
  pub leaves_running : (s : RunningSheet B T) (q : ClosedSheet) (train : T) → q.base ≡ (passed_of s).base → train ≡ train_of s
      → Performed E D (under_way s) (call lent leave) (left (numbers train)) (on_base q.base tables closed)
  leaves_running s q train e t = record { paces = []; does = record { told = ap (λ (x : T). left (numbers x)) t; none = refl; closes = ap (λ (b : Base). on_base b tables closed) e } }

pub leaves_passed : {B : Type 0} (E : Emergencies) (D : Services) (lent : Lent) (tables : Tables) (s : PassedSheet B) (q : ClosedSheet) → q.base ≡ s.base
    → Performed E D (on_base s.base tables (passed (pass_of s))) (call lent leave) done (on_base q.base tables closed)
leaves_passed E D lent tables s q e = record { paces = []; does = record { told = refl; none = refl; closes = ap (λ (b : Base). on_base b tables closed) e } }
