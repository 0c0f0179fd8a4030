-- A sheet of which one table is changed, and an open sheet that stays open. Assumes nothing.
--     Done .. order     an order that is taken, and to which no refusal is due, is done in step with the history
use Rattle.std.proofs.Common.{◌≡◌, ℕ, true, List, [], length, None, sym, ◌∙◌, subst}
use Rattle.codes.specs.declared.gradients.Class.{Class}
use Rattle.codes.specs.declared.speeds.Speed.{Speed}
use Rattle.ground.specs.declared.entries.Entry.{Entry}
use Rattle.laws.specs.Books.{Emergencies, Services, Distances, Laws}
use Rattle.sheet.specs.Sheets.{Heading, Tables, drawing, Sheet, drawn}
use Rattle.sheet.specs.Changes.{with_gradients, with_restrictions, with_row}
use Rattle.runs.specs.Orders.{Lent, Order, done}
use Rattle.runs.specs.Runs.{takes, fault, made}
use Rattle.runs.specs.Law.{Sizes, WorkedRow}
use Rattle.runs.proofs.Following.{Stock, Sound, In, Follows, Kept}

module _ (sizes : Sizes) (heading : Heading) (tables : Tables) (sound : Sound sizes heading tables) where
  pub sound_gradients : (count : ℕ) (table : List (Entry Class)) → Stock sizes.gradients count table
      → Sound sizes (record { start = heading.start; intervals = heading.intervals; gradients = count; restrictions = heading.restrictions; marks = heading.marks })
      (with_gradients table tables)
  sound_gradients count table stock = record {
    start = sound.start;
    intervals = sound.intervals;
    gradients = stock;
    restrictions = sound.restrictions;
    marks = sound.marks;
    row = sound.row;
    most = sound.most;
    fit_intervals = sound.fit_intervals;
    fit_marks = sound.fit_marks;
  }

  pub sound_restrictions : (count : ℕ) (table : List (Entry Speed)) → Stock sizes.restrictions count table
      → Sound sizes (record { start = heading.start; intervals = heading.intervals; gradients = heading.gradients; restrictions = count; marks = heading.marks })
      (with_restrictions table tables)
  sound_restrictions count table stock = record {
    start = sound.start;
    intervals = sound.intervals;
    gradients = sound.gradients;
    restrictions = stock;
    marks = sound.marks;
    row = sound.row;
    most = sound.most;
    fit_intervals = sound.fit_intervals;
    fit_marks = sound.fit_marks;
  }

  pub sound_row : (bytes : List ℕ) → length bytes ≡ length tables.row → Sound sizes heading (with_row bytes tables)
  sound_row bytes long = record {
    start = sound.start;
    intervals = sound.intervals;
    gradients = sound.gradients;
    restrictions = sound.restrictions;
    marks = sound.marks;
    row = sound.row ∙ sym long;
    most = sound.most;
    fit_intervals = sound.fit_intervals;
    fit_marks = sound.fit_marks;
  }

module _ (E : Emergencies) (D : Services) (distances : Distances E D) (laws : Laws E D) (sizes : Sizes) (rows : List WorkedRow) (sought : ℕ) (s : Sheet) where
  abbrev pub Done : Lent → Order → Type 0
  Done lent order = takes s.phase order ≡ true → fault s (record { lent = lent; order = order }) ≡ None
      → Kept E D distances laws sizes rows sought s (record { lent = lent; order = order }) done (made s.heading s.tables s.phase order)

  module _ (follows : Follows E D distances laws sizes rows sought s) (is_open : s.phase ≡ drawing) where
    -- no row was worked out while a sheet is open
    pub none_worked : rows ≡ []
    none_worked = subst (In E D distances laws (drawn s.heading s.tables) s.tables.row rows sought) is_open follows.inside

    pub still_open : (heading : Heading) (tables : Tables) → Sound sizes heading tables
        → Follows E D distances laws sizes rows sought (record { heading = heading; tables = tables; phase = s.phase })
    still_open heading tables sound =
        record { sound = sound; inside = subst (In E D distances laws (drawn heading tables) tables.row rows sought) (sym is_open) none_worked }
