-- Entering a record keeps a sheet and its history in step. Assumes nothing.
use Rattle.std.proofs.Common.{◌≡◌, ℕ, ◌+◌, List, take, set, ℤ, refl, arith}
use Rattle.laws.specs.Books.{Emergencies, Services, Distances, Laws}
use Rattle.ground.proofs.InUse.{contents_appended}
use Rattle.entering.specs.Entering.{FitInterval, FitMark, interval_of, gradient_of, restriction_of, most_intervals, most_gradients, most_restrictions, most_marks}
use Rattle.entering.specs.Entering as written
use Rattle.entering.proofs.Rulings.{room_from_none}
use Rattle.entering.proofs.Fit.{interval_fit, mark_fit}
use Rattle.sheet.specs.Sheets.{Heading, Tables, drawing, Sheet}
use Rattle.sheet.specs.Changes.{more_intervals, more_gradients, more_restrictions, more_marks, with_intervals, with_gradients, with_restrictions, with_marks}
use Rattle.runs.specs.Orders.{Lent, Order}
use Rattle.runs.specs.Orders.Order.{enter_interval, enter_gradient, enter_restriction, enter_mark}
use Rattle.runs.specs.Runs.{takes}
use Rattle.runs.specs.Law.{Sizes, WorkedRow}
use Rattle.runs.proofs.Following.{Sound, Follows}
use Rattle.runs.proofs.Phases.{only_drawing}
use Rattle.runs.proofs.Tables.{room, stock_entered, all_entered}
use Rattle.runs.proofs.Changed.{sound_gradients, sound_restrictions, Done, still_open}

module _ (E : Emergencies) (D : Services) (distances : Distances E D) (laws : Laws E D) (sizes : Sizes) (rows : List WorkedRow) (sought : ℕ)
    (s : Sheet) (follows : Follows E D distances laws sizes rows sought s) (lent : Lent) where
  abbrev heading : Heading
  heading = s.heading

  abbrev tables : Tables
  tables = s.tables

  sound : Sound sizes heading tables
  sound = follows.sound

  abbrev Does : Order → Type 0
  Does = Done E D distances laws sizes rows sought s lent

  module _ (is_open : s.phase ≡ drawing) where
    stays : (h : Heading) (t : Tables) → Sound sizes h t → Follows E D distances laws sizes rows sought (record { heading = h; tables = t; phase = s.phase })
    stays = still_open E D distances laws sizes rows sought s follows is_open

  pub done_interval : (number metres : ℕ) → Does (enter_interval number metres)
  done_interval number metres taken none =
      let x = interval_of number metres in
      let is_open = only_drawing (λ p. takes p (enter_interval number metres)) (λ p. refl) (λ p j. refl) refl s.phase taken in
      let has_room = room_from_none (take lent.intervals tables.intervals) heading.intervals most_intervals _ none in
      let less = room tables.intervals sizes.intervals heading.intervals sound.intervals lent.intervals has_room.0 in
      let stock = stock_entered tables.intervals sizes.intervals heading.intervals sound.intervals x less in
      record {
        right = tt;
        drawing = let appended = contents_appended tables.intervals heading.intervals x less in cc;
        follows = stays is_open (more_intervals heading) (with_intervals (set tables.intervals heading.intervals x) tables) (record {
          start = sound.start;
          intervals = stock;
          gradients = sound.gradients;
          restrictions = sound.restrictions;
          marks = sound.marks;
          row = sound.row;
          most = omega (arith, has_room.1);
          fit_intervals = all_entered FitInterval tables.intervals heading.intervals x less sound.fit_intervals
              (interval_fit (take lent.intervals tables.intervals) heading.intervals number metres none);
          fit_marks = sound.fit_marks;
        });
      }

  pub done_gradient : (from to : ℕ) (faldtal : ℤ) → Does (enter_gradient from to faldtal)
  done_gradient from to faldtal taken none =
      let x = gradient_of from to faldtal in
      let is_open = only_drawing (λ p. takes p (enter_gradient from to faldtal)) (λ p. refl) (λ p j. refl) refl s.phase taken in
      let has_room = room_from_none (take lent.gradients tables.gradients) heading.gradients most_gradients _ none in
      let less = room tables.gradients sizes.gradients heading.gradients sound.gradients lent.gradients has_room.0 in
      let stock = stock_entered tables.gradients sizes.gradients heading.gradients sound.gradients x less in
      record {
        right = tt;
        drawing = let appended = contents_appended tables.gradients heading.gradients x less in cc;
        follows = stays is_open (more_gradients heading) (with_gradients (set tables.gradients heading.gradients x) tables)
            (sound_gradients sizes heading tables sound (heading.gradients + 1) (set tables.gradients heading.gradients x) stock);
      }

  pub done_restriction : (from to speed : ℕ) → Does (enter_restriction from to speed)
  done_restriction from to speed taken none =
      let x = restriction_of from to speed in
      let is_open = only_drawing (λ p. takes p (enter_restriction from to speed)) (λ p. refl) (λ p j. refl) refl s.phase taken in
      let has_room = room_from_none (take lent.restrictions tables.restrictions) heading.restrictions most_restrictions _ none in
      let less = room tables.restrictions sizes.restrictions heading.restrictions sound.restrictions lent.restrictions has_room.0 in
      let stock = stock_entered tables.restrictions sizes.restrictions heading.restrictions sound.restrictions x less in
      record {
        right = tt;
        drawing = let appended = contents_appended tables.restrictions heading.restrictions x less in cc;
        follows = stays is_open (more_restrictions heading) (with_restrictions (set tables.restrictions heading.restrictions x) tables)
            (sound_restrictions sizes heading tables sound (heading.restrictions + 1) (set tables.restrictions heading.restrictions x) stock);
      }

  pub done_mark : (number position danger : ℕ) → Does (enter_mark number position danger)
  done_mark number position danger taken none =
      let x = written.mark_of number position danger in
      let is_open = only_drawing (λ p. takes p (enter_mark number position danger)) (λ p. refl) (λ p j. refl) refl s.phase taken in
      let has_room = room_from_none (take lent.marks tables.marks) heading.marks most_marks _ none in
      let less = room tables.marks sizes.marks heading.marks sound.marks lent.marks has_room.0 in
      let stock = stock_entered tables.marks sizes.marks heading.marks sound.marks x less in
      record {
        right = tt;
        drawing = let appended = contents_appended tables.marks heading.marks x less in cc;
        follows = stays is_open (more_marks heading) (with_marks (set tables.marks heading.marks x) tables) (record {
          start = sound.start;
          intervals = sound.intervals;
          gradients = sound.gradients;
          restrictions = sound.restrictions;
          marks = stock;
          row = sound.row;
          most = sound.most;
          fit_intervals = sound.fit_intervals;
          fit_marks = all_entered FitMark tables.marks heading.marks x less sound.fit_marks
              (mark_fit (take lent.marks tables.marks) heading.marks number position danger none);
        });
      }
