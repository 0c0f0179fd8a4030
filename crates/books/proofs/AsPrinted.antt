-- The printed figures in writing order answer each question as printed. Assumes nothing.
use Rattle.std.proofs.Common.{◌≡◌, ℕ, Bool, true, false, cond, [], refl, ap, ltb-true}
use Rattle.codes.specs.declared.speeds.Speed.{Speed}
use Rattle.codes.specs.declared.speeds.Code.{Code}
use Rattle.codes.specs.declared.speeds.Code.TheVariants.{Go}
use Rattle.codes.specs.declared.gradients.Class.{Class}
use Rattle.codes.specs.Speeds.{lower}
use Rattle.codes.specs.Refusals.{Told, gives, refuses}
use Rattle.laws.specs.Books.{answered}
use Rattle.laws.specs.Questions.{emergency, service, emergency_of, service_of}
use Rattle.laws.proofs.Places.{written_at}
use Rattle.books.specs.Printed.{printed_emergency, printed_service}
use Rattle.books.specs.PrintedLaws.{printed}
use Rattle.books.specs.Lent.{Agree}

pub printed_agree : Agree (emergency_of printed) (service_of printed) printed_emergency printed_service
printed_agree (emergency k from to) asks = written_at printed_emergency printed_service (emergency k from to) asks
printed_agree (service k from) asks = written_at printed_emergency printed_service (service k from) asks

same_told : (b : Bool) (m n : ℕ) → (b ≡ true → m ≡ n) → ◌≡◌ {A = Told ℕ} (cond b (gives m) (refuses (17, []))) (cond b (gives n) (refuses (17, [])))
same_told true m n same = ap gives (same refl)
same_told false m n same = refl

pub emergency_as_printed : (k : Class) (from : Speed) (to : Code) → answered (emergency_of printed) k from to ≡ answered printed_emergency k from to
emergency_as_printed k from to =
    same_told (lower to (Go from)) (emergency_of printed k from to) (printed_emergency k from to)
    (λ below. printed_agree (emergency k from to) (ltb-true _ _ below))

pub service_as_printed : (k : Class) (from : Speed) → service_of printed k from ≡ printed_service k from
service_as_printed k from = printed_agree (service k from) tt
