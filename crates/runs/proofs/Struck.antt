-- Striking an entry, closing and reopening keep a sheet and its history in step. Assumes nothing.
use Rattle.std.proofs.Common.{◌≡◌, ℕ, ◌-◌, List, take, sym, refl, subst}
use Rattle.std.specs.List.{AllByRecursion}
use Rattle.laws.specs.Books.{Emergencies, Services, Distances, Laws}
use Rattle.ground.specs.Tables.{closed_up}
use Rattle.ground.proofs.InUse.{contents_closed_up}
use Rattle.sheet.specs.Sheets.{Heading, Tables, drawing, Sheet, drawn}
use Rattle.sheet.specs.Changes.{fewer_gradients, fewer_restrictions, with_gradients, with_restrictions}
use Rattle.runs.specs.Orders.{Lent, Order}
use Rattle.runs.specs.Orders.Order.{strike_gradient, strike_restriction, close, reopen}
use Rattle.runs.specs.Runs.{takes}
use Rattle.runs.specs.Law.{Sizes, WorkedRow}
use Rattle.runs.proofs.Following.{Sound, WorkedOn, Follows}
use Rattle.runs.proofs.Phases.{only_drawing}
use Rattle.runs.proofs.Tables.{stock_struck, place_in_use}
use Rattle.runs.proofs.Changed.{sound_gradients, sound_restrictions, Done, none_worked, still_open}

module _ (E : Emergencies) (D : Services) (distances : Distances E D) (laws : Laws E D) (sizes : Sizes) (rows : List WorkedRow) (sought : ℕ)
    (s : Sheet) (follows : Follows E D distances laws sizes rows sought s) (lent : Lent) where
  abbrev heading : Heading
  heading = s.heading

  abbrev tables : Tables
  tables = s.tables

  sound : Sound sizes heading tables
  sound = follows.sound

  abbrev Does : Order → Type 0
  Does = Done E D distances laws sizes rows sought s lent

  module _ (is_open : s.phase ≡ drawing) where
    stays : (h : Heading) (t : Tables) → Sound sizes h t → Follows E D distances laws sizes rows sought (record { heading = h; tables = t; phase = s.phase })
    stays = still_open E D distances laws sizes rows sought s follows is_open

  pub done_strike_gradient : (place : ℕ) → Does (strike_gradient place)
  done_strike_gradient place taken none =
      let is_open = only_drawing (λ p. takes p (strike_gradient place)) (λ p. refl) (λ p j. refl) refl s.phase taken in
      let used = place_in_use (take lent.gradients tables.gradients) heading.gradients place none in
      record {
        right = tt;
        drawing = let left = contents_closed_up tables.gradients place heading.gradients used sound.gradients.within in cc;
        follows = stays is_open (fewer_gradients heading) (with_gradients (closed_up tables.gradients heading.gradients place) tables)
            (sound_gradients sizes heading tables sound (heading.gradients - 1) (closed_up tables.gradients heading.gradients place)
            (stock_struck tables.gradients sizes.gradients heading.gradients sound.gradients place used));
      }

  pub done_strike_restriction : (place : ℕ) → Does (strike_restriction place)
  done_strike_restriction place taken none =
      let is_open = only_drawing (λ p. takes p (strike_restriction place)) (λ p. refl) (λ p j. refl) refl s.phase taken in
      let used = place_in_use (take lent.restrictions tables.restrictions) heading.restrictions place none in
      record {
        right = tt;
        drawing = let left = contents_closed_up tables.restrictions place heading.restrictions used sound.restrictions.within in cc;
        follows = stays is_open (fewer_restrictions heading) (with_restrictions (closed_up tables.restrictions heading.restrictions place) tables)
            (sound_restrictions sizes heading tables sound (heading.restrictions - 1) (closed_up tables.restrictions heading.restrictions place)
            (stock_struck tables.restrictions sizes.restrictions heading.restrictions sound.restrictions place used));
      }

  pub done_close : Does close
  done_close taken none =
      let is_open = only_drawing (λ p. takes p close) (λ p. refl) (λ p j. refl) refl s.phase taken in
      let rows_none = none_worked E D distances laws sizes rows sought s follows is_open in
      record {
        right = tt;
        drawing = refl;
        follows = record { sound = sound; inside = subst (AllByRecursion (WorkedOn E D distances laws (drawn heading tables))) (sym rows_none) tt };
      }

  pub done_reopen : Does reopen
  done_reopen taken none = record { right = tt; drawing = refl; follows = record { sound = sound; inside = refl } }
