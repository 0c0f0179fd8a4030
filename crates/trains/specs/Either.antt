-- What a train of one of two kinds means. Assumes nothing.
--     either F S train     its five numbers, where F and S give those of the first and the second kind
--     either_ranged        they lie in their ranges, where those of both kinds do
use Rattle.trains.specs.Braking.{Numbers, Ranged}
use Rattle.trains.specs.declared.either.EitherTrain.{EitherTrain}
use Rattle.trains.specs.declared.either.EitherTrain.TheVariants.{First, Second}

abbrev pub either : {F S : Type 0} → (F → Numbers) → (S → Numbers) → EitherTrain F S → Numbers
either first second (First train) = first train
either first second (Second train) = second train

pub either_ranged : {F S : Type 0} (first : F → Numbers) (second : S → Numbers) → ((train : F) → Ranged (first train))
    → ((train : S) → Ranged (second train)) → (train : EitherTrain F S) → Ranged (either first second train)
either_ranged first second first-ranged second-ranged (First train) = first-ranged train
either_ranged first second first-ranged second-ranged (Second train) = second-ranged train
