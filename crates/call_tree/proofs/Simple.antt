-- Small laws of trees and pieces.
use Rattle.std.proofs.Common.{◌≡◌, ℕ, nat_eq, true, false, not, ◌&&◌, List, [], ◌∷◌, slice_get, bytes_eq, refl, ap, subst, arith}
use Rattle.std.proofs.lemmas.Bool.{and_parts, and_from, or_from, not-true, false_from_ne_true, both_ways, lt-ltb, le-leb, eq-eqb}
use Rattle.std.specs.List.{list_all, starts_with}
use Rattle.flat_prog.specs.declared.proc.FlatKind.{FlatKind}
use Rattle.flat_prog.specs.declared.proc.FlatKind.TheVariants.{Source, Loop}
use Rattle.flat_prog.specs.Caps.{kind_of, may_follow}
use Rattle.call_tree.specs.declared.piece.Decision2.{Decision2}
use Rattle.call_tree.specs.declared.piece.Decision2.TheVariants.{Must, Avoid}
use Rattle.call_tree.specs.Trees.{has_path, open_of}
use Rattle.call_tree.specs.Pieces.{names_of, settles, is_root, is_undecided}
use Rattle.call_tree.specs.Laws.{RootLaw, OpensLaw, UndecidedLaw, CountLaw}
use Rattle.call_tree.specs.Splits.{DecisionLaw}
use Rattle.call_tree.proofs.PartTrees.{path_is, filter_has, open_fits, are_in_each, fewer}
use Rattle.call_tree.proofs.Whole.{opens_differ, each_in}
use Rattle.call_tree.proofs.Covering.{meets_more}

pub root : RootLaw
root flat entry bound some = record { rest = []; root_first = refl; root = stands (kind_of (slice_get flat.procs entry)); placed = refl }
  where
    stands : (kind : FlatKind) → (may_follow bound kind entry [] && true) ≡ true
    stands (Source proc) = ap (λ b. b && true) (lt-ltb 0 bound some)
    stands (Loop proc head) = ap (λ b. b && true) (le-leb 0 bound (omega arith))

pub opens : OpensLaw
opens flat entry bound tree is = record {
  opens = each_in (open_of flat entry bound tree) (open_of flat entry bound tree) (λ p at. at);
  differ = opens_differ flat entry bound tree is;
  apart = λ site at. (open_fits flat entry bound tree site at).new;
  below = λ site at. (open_fits flat entry bound tree site at).below;
}

starts_itself : (p : List ℕ) → starts_with nat_eq p p ≡ true
starts_itself [] = refl
starts_itself (x ∷ xs) = and_from (nat_eq x x) (starts_with nat_eq xs xs) (eq-eqb x x refl) (starts_itself xs)

-- what is named is settled
settled : (path named : List ℕ) (way : Decision2) → bytes_eq named path ≡ true → settles path (named, way) ≡ true
settled path named Must same = subst (λ (p : List ℕ). starts_with nat_eq named p ≡ true) (path_is named path same) (starts_itself named)
settled path named Avoid same = subst (λ (p : List ℕ). starts_with nat_eq p named ≡ true) (path_is named path same) (starts_itself named)

unnamed_of : (path : List ℕ) (piece : List (List ℕ × Decision2)) → list_all (λ d. not (settles path d)) piece ≡ true → has_path (names_of piece) path ≡ false
unnamed_of path [] h = refl
unnamed_of path ((named, way) ∷ piece) h =
    let parts = and_parts (not (settles path (named, way))) (list_all (λ d. not (settles path d)) piece) h in
    or_from (bytes_eq named path) (has_path (names_of piece) path)
    (false_from_ne_true (bytes_eq named path) (λ e. both_ways (settles path (named, way)) (not-true (settles path (named, way)) parts.0) (settled path named way e)))
    (unnamed_of path piece parts.1)

pub undecided : UndecidedLaw
undecided tree piece path at =
    let r = filter_has (is_undecided piece) tree path at in
    let parts = and_parts (not (is_root path)) (list_all (λ d. not (settles path d)) piece) r.0 in
    record { node = r.1; below = not-true (is_root path) parts.0; unnamed = unnamed_of path piece parts.1 }

pub count : CountLaw
count some others differ are = fewer some others differ (λ p at. are_in_each some others p are at)

pub decision : DecisionLaw
decision reached piece d = meets_more reached piece d
