-- Which sites are within the caps, site by site and node by node.
use Rattle.std.proofs.Common.{◌≡◌, ℕ, zero, suc, ◌+◌, Bool, List, [], ◌∷◌, ◌++◌, length, map, take, refl, sym, ap, ◌∙◌, arith}
use Rattle.std.specs.Prelude.{Some, slice_get}
use Rattle.std.specs.Option.{option_map}
use Rattle.std.proofs.lemmas.Option.{slice_get-map}
use Rattle.flat_prog.specs.Caps.{within}
use Rattle.flat_prog.specs.Program.{FlatProgram}
use Rattle.flat_prog.specs.Sites.{numbers_from}
use Rattle.call_tree.specs.Trees.{callees, extended, proc_at, sites_at}
use Rattle.call_tree.specs.declared.piece.Decision2.{Decision2}
use Rattle.tree_terms.specs.declared.linked.Linked.{Linked}
use Rattle.tree_terms.specs.declared.linked.Place.{Place}
use Rattle.tree_words.specs.Linking.{number}
use Rattle.tree_words.specs.RulesSaid.{numbered}
use Rattle.tree_query.specs.Asked.{caps_of}
use Rattle.tree_query.specs.Tabled.{place_by, place_in}
use Rattle.tree_query.proofs.Bases.{numbers-snoc}
use Rattle.tree_query.proofs.Tables.{extended-snoc}

map-snoc : {A B : Type 0} (f : A → B) (xs : List A) (x : A) → map f (xs ++ x ∷ []) ≡ map f xs ++ f x ∷ []
map-snoc f [] x = refl
map-snoc f (y ∷ xs) x = ap (λ r. f y ∷ r) (map-snoc f xs x)

length-map : {A B : Type 0} (f : A → B) (xs : List A) → length (map f xs) ≡ length xs
length-map f [] = refl
length-map f (x ∷ xs) = ap suc (length-map f xs)

length-extended : (path ns : List ℕ) → length (extended path ns) ≡ length ns
length-extended path [] = refl
length-extended path (n ∷ ns) = ap suc (length-extended path ns)

length-numbers : (first n : ℕ) → length (numbers_from first n) ≡ n
length-numbers first zero = refl
length-numbers first (suc n) = ap suc (length-numbers (first + 1) n)

-- one site more
pub flags_next : (flat : FlatProgram) (entry bound : ℕ) (path next : List ℕ) (i site : ℕ) (old new : List Bool) (b : Bool) → site ≡ i → next ≡ path ++ site ∷ [] → b ≡ within flat entry bound next
    → old ≡ map (within flat entry bound) (extended path (numbers_from 0 i)) → new ≡ old ++ b ∷ [] → new ≡ map (within flat entry bound) (extended path (numbers_from 0 (i + 1)))
flags_next flat entry bound path next i site old new b site_is next_is b_is before new_is =
    let more : i + 1 ≡ suc i = omega arith in
    let place : 0 + i ≡ i = omega arith in
    new_is ∙ ap (λ (x : Bool). old ++ x ∷ []) (b_is ∙ ap (within flat entry bound) (next_is ∙ ap (λ (n : ℕ). path ++ n ∷ []) site_is))
    ∙ ap (λ (r : List Bool). r ++ within flat entry bound (path ++ i ∷ []) ∷ []) before
    ∙ sym
    (ap (λ (n : ℕ). map (within flat entry bound) (extended path (numbers_from 0 n))) more
    ∙ ap (λ (ns : List ℕ). map (within flat entry bound) (extended path ns)) (numbers-snoc 0 i ∙ ap (λ (n : ℕ). numbers_from 0 i ++ n ∷ []) place)
    ∙ ap (map (within flat entry bound)) (extended-snoc path (numbers_from 0 i) i) ∙ map-snoc (within flat entry bound) (extended path (numbers_from 0 i)) (path ++ i ∷ []))

-- a tree's nodes are as many as its paths
pub places_count : (flat : FlatProgram) (entry : ℕ) (tree : List (List ℕ)) (places : List Place) → places ≡ map (place_by flat entry tree) tree → length places ≡ length tree
places_count flat entry tree places is = ap length is ∙ length-map (place_by flat entry tree) tree

-- a node has as many kids as sites
pub kids_count : (flat : FlatProgram) (entry : ℕ) (tree : List (List ℕ)) (places : List Place) (i : ℕ) (p : List ℕ) (place : Place) → places ≡ map (place_by flat entry tree) tree → slice_get tree i ≡ Some p
    → slice_get places i ≡ Some place → length place.kids ≡ length (callees flat (proc_at flat entry p))
kids_count flat entry tree places i p place is at_path at_place =
    let same : Some place ≡ Some (place_by flat entry tree p) =
    sym at_place ∙ ap (λ (ps : List Place). slice_get ps i) is ∙ slice_get-map (place_by flat entry tree) tree i ∙ ap (option_map (place_by flat entry tree)) at_path in
    let one : place ≡ place_by flat entry tree p = cc in
    ap (λ (x : Place). length x.kids) one ∙ length-map (place_in tree) (sites_at flat entry p) ∙ length-extended p (numbers_from 0 (length (callees flat (proc_at flat entry p))))
    ∙ length-numbers 0 (length (callees flat (proc_at flat entry p)))

-- one node more
pub table_next : (flat : FlatProgram) (entry bound : ℕ) (tree : List (List ℕ)) (i n : ℕ) (p : List ℕ) (old new : List (List Bool)) (row : List Bool) → take (i + 1) tree ≡ take i tree ++ p ∷ []
    → n ≡ length (callees flat (proc_at flat entry p)) → row ≡ map (within flat entry bound) (extended p (numbers_from 0 n)) → old ≡ caps_of flat entry bound (take i tree) → new ≡ old ++ row ∷ []
    → new ≡ caps_of flat entry bound (take (i + 1) tree)
table_next flat entry bound tree i n p old new row more count row_is before new_is =
    new_is ∙ ap (λ (r : List Bool). old ++ r ∷ []) (row_is ∙ ap (λ (k : ℕ). map (within flat entry bound) (extended p (numbers_from 0 k))) count)
    ∙ ap (λ (t : List (List Bool)). t ++ map (within flat entry bound) (sites_at flat entry p) ∷ []) before
    ∙ sym (ap (caps_of flat entry bound) more ∙ map-snoc (λ (r : List ℕ). map (within flat entry bound) (sites_at flat entry r)) (take i tree) p)

-- one decision more
pub numbered_next : (q : Linked) (ds : List (List ℕ × Decision2)) (d : List ℕ × Decision2) → numbered q (ds ++ d ∷ []) ≡ numbered q ds ++ (number q d.0, d.1) ∷ []
numbered_next q ds d = map-snoc (λ (x : List ℕ × Decision2). (number q x.0, x.1)) ds d
