-- What `reduce` answers of the items of a chain, where each call of its closure computes one function. Assumes nothing.
use Rattle.std.proofs.Common.{◌≡◌, List, [], ◌∷◌, Some, None, Option, fold, refl, ap, ◌∙◌, sym}
use denote.Param.Members.{Mut}
use Rattle.std.specs.Fn.{Called}
use Rattle.std.specs.Iterator.{ReducesItems}
use Rattle.std.specs.List.{reduce}
use Rattle.std.proofs.lemmas.Fn.{fold_same}
use Rattle.std.proofs.lemmas.Iterator.{YieldsList, items_from_drains}
use Rattle.std.proofs.lemmas.List.{map-id}
use Rattle.std.proofs.lemmas.List.Sums.{fold-append}

pub reduced : {S A F : Type 0} {steps : S → Option A → S → Type 0} {s : S} {all : List A} (g : Mut F (A × (A × Unit {0})) A) (h : A → A → A) {f : F} (r : Option A) → ReducesItems steps g s f r → YieldsList steps (λ x. x) s all → ((a x b : A) (q : F) → Called g f (a, (x, tt)) b q → (q ≡ f) × (b ≡ h a x)) → r ≡ reduce h all
reduced g h None drains road computes =
    ap (reduce h) (items_from_drains [] (drains.1.0, drains.1.1, λ _. (drains.0, drains.1.2)) road)
reduced g h {f} (Some y) taken road computes =
    let x = taken.0 in
    let xs = taken.1 in
    let drains = taken.3 in
    let items = sym (map-id (x ∷ xs)) ∙ items_from_drains (x ∷ xs) (drains.1.0, drains.1.1, λ _. (drains.0, drains.1.2)) road in
    let value =
    fold_same g (λ ys b. b ≡ fold h x ys) f
    (λ ys a z b f' before call.
    let here = computes a z b f' call in
    (here.1 ∙ ap (λ c. h c z) before ∙ sym (fold-append h x ys (z ∷ [])), here.0))
    xs x y taken.2 refl taken.4 in
    ap Some value ∙ ap (reduce h) items
