-- The locals from a number on, one by one.
use Rattle.std.proofs.Common.{◌≡◌, ℕ, zero, suc, ◌+◌, ◌-◌, ◌<◌, List, [], ◌∷◌, ◌++◌, length, get_or, drop, map, refl, sym, ap, ◌∙◌, arith}
use Rattle.std.proofs.lemmas.List.{append_assoc}
use Rattle.hy_val.specs.declared.expr.Var.{Var}
use Rattle.hy_val.specs.declared.expr.Var.TheVariants.{Local}
use Rattle.flat_prog.specs.Sites.{numbers_from}
use Rattle.flat_prog.specs.declared.block.FlatBlock.{FlatBlock}
use Rattle.flat_prog.specs.declared.block.FlatNext.TheVariants.{Return}
use Rattle.extract_def.specs.declared.edge.Dest.TheVariants.{Back}
use Rattle.extract_def.specs.declared.edge.Edge.{Edge}
use Rattle.loop_extract.specs.declared.region.Region.{Region}
use Rattle.loop_extract.specs.Regions.{leave_from}
use Rattle.loop_extract.proofs.Rests.{rest_more}
use Rattle.extract_def.specs.Renaming.{locals_from, set_exit}

pub locals_more : (whole out new : List Var) (first k count local : ℕ) → whole ≡ out ++ locals_from (first + k) (count - k) → k < count → local ≡ first + k → new ≡ out ++ Local local ∷ []
    → whole ≡ new ++ locals_from (first + (k + 1)) (count - (k + 1))
locals_more whole out new first k count local h lt is put =
    let z : count - k ≡ suc (count - (k + 1)) = omega arith in
    let y : first + k + 1 ≡ first + (k + 1) = omega arith in
    h
    ∙ ap (λ n. out ++ locals_from (first + k) n) z
    ∙ ap (λ n. out ++ (Local (first + k) ∷ locals_from n (count - (k + 1)))) y
    ∙ ap (λ n. out ++ (Local n ∷ locals_from (first + (k + 1)) (count - (k + 1)))) (sym is)
    ∙ sym (append_assoc out (Local local ∷ []) (locals_from (first + (k + 1)) (count - (k + 1))))
    ∙ ap (λ xs. xs ++ locals_from (first + (k + 1)) (count - (k + 1))) (sym put)

pub numbers_more : (whole out new : List ℕ) (first k count number : ℕ) → whole ≡ out ++ numbers_from (first + k) (count - k) → k < count → number ≡ first + k → new ≡ out ++ number ∷ []
    → whole ≡ new ++ numbers_from (first + (k + 1)) (count - (k + 1))
numbers_more whole out new first k count number h lt is put =
    let z : count - k ≡ suc (count - (k + 1)) = omega arith in
    let y : first + k + 1 ≡ first + (k + 1) = omega arith in
    h
    ∙ ap (λ n. out ++ numbers_from (first + k) n) z
    ∙ ap (λ n. out ++ ((first + k) ∷ numbers_from n (count - (k + 1)))) y
    ∙ ap (λ n. out ++ (n ∷ numbers_from (first + (k + 1)) (count - (k + 1)))) (sym is)
    ∙ sym (append_assoc out (number ∷ []) (numbers_from (first + (k + 1)) (count - (k + 1))))
    ∙ ap (λ xs. xs ++ numbers_from (first + (k + 1)) (count - (k + 1))) (sym put)

get_or_same : {A : Type 0} (xs : List A) (k : ℕ) (d : A) → get_or xs k d ≡ get_or xs k (get_or xs k d)
get_or_same [] k d = refl
get_or_same (x ∷ xs) zero d = refl
get_or_same (x ∷ xs) (suc k) d = get_or_same xs k d

pub leaves_more : (r : Region) (whole out new : List FlatBlock) (k exit : ℕ) (es : List Edge) → whole ≡ out ++ leave_from r k (drop k es) → k < length es → exit ≡ k
    → new ≡ out ++ record { cmds = set_exit r.local exit ∷ []; next = Return } ∷ [] → whole ≡ new ++ leave_from r (k + 1) (drop (k + 1) es)
leaves_more r whole out new k exit es h lt is put =
    let d : Edge = record { block = 0; place = 0; dest = Back } in
    let b : ℕ → FlatBlock = λ x. record { cmds = set_exit r.local x ∷ []; next = Return } in
    rest_more (leave_from r k) (leave_from r (k + 1)) whole out (b k ∷ []) es k (get_or es k d) h lt (get_or_same es k d) refl
    ∙ ap (λ x. (out ++ b x ∷ []) ++ leave_from r (k + 1) (drop (k + 1) es)) (sym is) ∙ ap (λ bs. bs ++ leave_from r (k + 1) (drop (k + 1) es)) (sym put)

pub map_more : {A : Type 0} (f : ℕ → A) (whole out new : List A) (k count number : ℕ) → whole ≡ out ++ map f (numbers_from k (count - k)) → k < count → number ≡ k → new ≡ out ++ f number ∷ []
    → whole ≡ new ++ map f (numbers_from (k + 1) (count - (k + 1)))
map_more f whole out new k count number h lt is put =
    let z : count - k ≡ suc (count - (k + 1)) = omega arith in
    h
    ∙ ap (λ n. out ++ map f (numbers_from k n)) z
    ∙ ap (λ n. out ++ (f n ∷ map f (numbers_from (k + 1) (count - (k + 1))))) (sym is)
    ∙ sym (append_assoc out (f number ∷ []) (map f (numbers_from (k + 1) (count - (k + 1)))))
    ∙ ap (λ xs. xs ++ map f (numbers_from (k + 1) (count - (k + 1)))) (sym put)
