-- The sheet Alfa as the rules see it: the gradient is of faldtal -30, which is class 2. Assumes nothing.
--     track_for sheet     the line with its gradient and its restriction
--     mark_for sheet      its stop mark, which stands in the fourth interval
use Rattle.std.specs.Prelude.{ℕ, List, [], ◌∷◌, Some, None, Option}
use Rattle.codes.specs.declared.speeds.Speed.{Speed}
use Rattle.codes.specs.declared.speeds.Speed.TheVariants.{V50}
use Rattle.codes.specs.declared.gradients.Class.TheVariants.{C2}
use Rattle.ground.specs.declared.entries.Entry.{Entry}
use Rattle.rules.specs.Tracks.{Track, Mark}
use Rattle.alfa.specs.declared.sheets.Variant.{Variant}

-- 50 km/h from 10,200 on, to where it ends
abbrev slow_to : Option ℕ → List (Entry Speed)
slow_to None = []
slow_to (Some end) = record { from = 10200; to = end; value = V50 } ∷ []

abbrev pub track_for : Variant → Track
track_for sheet = record {
  start = 10000;
  lengths = 420 ∷ 280 ∷ 210 ∷ 200 ∷ [];
  gradients = record { from = 9000; to = sheet.drawn_to; value = C2 } ∷ [];
  restrictions = slow_to sheet.slow_to;
}

abbrev pub mark_for : Variant → Mark
mark_for sheet = record { position = 11110; danger = sheet.danger; interval = 4 }
