-- A train under way over a row of codes: setting off, and one metre after the other. Assumes nothing.
--     Journey                 where the train's head is, the code that it was told last, and its five numbers
--     stands journey          whether the train stands: pace 0, with stop told last
--     class_behind track p    the class of the train's length behind position p
--     class_at track metre    the class of one metre
--     Differs .. told p i     interval i + 1 begins at position p, and its code is not the one told last
--     SetsOff .. train journey paces      the train was put at the start and heard the code of the first interval
--     Arrives .. told train journey paces     the train came to a position: it heard the code of an interval that begins there, if that
--                             is not the code told last
--     Moves .. before after paces         one step of a train that does not stand: a metre rolled, and the arrival behind it
--     In each of the three, paces are those that the train told after each hearing and each rolling, in order.
use Rattle.std.specs.Prelude.{◌≡◌, ℕ, ◌+◌, ◌-◌, ◌<◌, min, Bool, ◌&&◌, List, [], ◌∷◌, get_or, ◌==◌, slice_index_or}
use Rattle.codes.specs.declared.speeds.Code.{Code}
use Rattle.codes.specs.declared.speeds.Code.TheVariants.{Stop}
use Rattle.codes.specs.declared.gradients.Class.{Class}
use Rattle.codes.specs.Speeds.{byte}
use Rattle.ground.specs.Ground.{metre_value}
use Rattle.ground.specs.Kinds.{steepness}
use Rattle.laws.specs.Books.{Emergencies}
use Rattle.rules.specs.Tracks.{Track, Mark, end_of, class_over}
use Rattle.rules.specs.Rules.{train_length}
use Rattle.trains.specs.Braking.{Numbers, Hears, Rolls}

pub record Journey : Type 0 where
  pub position : ℕ
  pub told : Code
  pub train : Numbers

abbrev pub stands : Journey → Bool
stands journey = byte journey.told == 0 && journey.train.pace == 0

-- positions end here
abbrev pub last_position : ℕ
last_position = 500000

abbrev pub class_behind : Track → ℕ → Class
class_behind track p = class_over track (p - train_length) p

abbrev pub class_at : Track → ℕ → Class
class_at track metre = metre_value steepness track.gradients metre

-- an interval up to the mark's that begins at position p, and whose code is not the one told last
pub record Differs (track : Track) (mark : Mark) (row : List Code) (told : Code) (p i : ℕ) : Type 0 where
  pub within : i < mark.interval
  pub begins : end_of track i ≡ p
  pub other : get_or row i Stop ≡ told → ⊥

module _ (track : Track) (mark : Mark) (E : Emergencies) (row : List Code) where
  pub record SetsOff (train : Numbers) (journey : Journey) (paces : List ℕ) : Type 0 where
    pub position : journey.position ≡ track.start
    pub told : journey.told ≡ slice_index_or row 0 Stop
    pub hears : Hears E (slice_index_or row 0 Stop) (class_behind track track.start) train journey.train
    pub tells : paces ≡ journey.train.pace ∷ []

  pub data Arrives (told : Code) (train : Numbers) (journey : Journey) : List ℕ → Type 0 where
    -- the first such interval counts; on a sheet there is one at most
    hears_code : (i : ℕ) → Differs track mark row told journey.position i
        → ((k : ℕ) → k < i → Differs track mark row told journey.position k → ⊥)
        → journey.told ≡ slice_index_or row i Stop
        → Hears E (slice_index_or row i Stop) (class_behind track journey.position) train journey.train
        → Arrives told train journey (journey.train.pace ∷ [])
    hears_none : ((i : ℕ) → Differs track mark row told journey.position i → ⊥)
        → journey.told ≡ told → journey.train ≡ train → Arrives told train journey []

  pub record Moves (before after : Journey) (paces : List ℕ) : Type 0 where
    pub position : after.position ≡ min (before.position + 1) last_position
    -- the train between its rolling and its arrival
    pub rolled : Numbers
    pub rolls : Rolls E (class_at track before.position) before.train rolled
    pub heard : List ℕ
    pub arrives : Arrives before.told rolled after heard
    pub tells : paces ≡ rolled.pace ∷ heard
