-- What an `ok_or` refuses. Assumes nothing.
use Rattle.std.proofs.Common.{◌≡◌, Some, None, Err, Option, Result, refl}
use Rattle.std.specs.Option.{ok_or}

-- it refuses where there is nothing, by the refusal named
pub none_from_err : {T W : Type 0} (o : Option T) (why told : W) → ◌≡◌ {A = Result T W} (Err told) (ok_or o why) → (o ≡ None) × (told ≡ why)
none_from_err None why told e = (refl, cc)
none_from_err (Some x) why told e = absurd (cc)
