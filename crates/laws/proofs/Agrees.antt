-- Books that answer every question alike keep the same laws. Assumes nothing.
use Rattle.std.proofs.Common.{◌≡◌, arith}
use Rattle.laws.specs.Books.{Emergencies, Services, Laws}
use Rattle.laws.specs.Questions.{Question, emergency, service, Asks, figure}

module _ (E E' : Emergencies) (D D' : Services) (same : (q : Question) → Asks q → figure E D q ≡ figure E' D' q) (laws : Laws E D) where
  pub same_laws : Laws E' D'
  same_laws = record {
    higher_to = λ k from low high l m.
        let a = same (emergency k from low) (omega arith) in let b = same (emergency k from high) m in let c = laws.higher_to k from low high l m in omega arith;
    higher_from = λ k low high to l m.
        let a = same (emergency k low to) l in let b = same (emergency k high to) (omega arith) in let c = laws.higher_from k low high to l m in omega arith;
    higher_service = λ k low high l.
        let a = same (service k low) tt in let b = same (service k high) tt in let c = laws.higher_service k low high l in omega arith;
    steeper_emergency = λ j k from to l m.
        let a = same (emergency j from to) m in let b = same (emergency k from to) m in let c = laws.steeper_emergency j k from to l m in omega arith;
    steeper_service = λ j k from l.
        let a = same (service j from) tt in let b = same (service k from) tt in let c = laws.steeper_service j k from l in omega arith;
  }
