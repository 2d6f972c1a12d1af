-- A program without faults is well typed.
use Rattle.std.proofs.Common.{◌≡◌, ℕ, ◌+◌, ◌<◌, ◌≤◌, Bool, true, false, not, ◌&&◌, ◌||◌, List, [], ◌∷◌, ◌++◌, length, map, flat_map, filter, Option, Some, None, is_some, Ok, refl, sym, ◌∙◌, ap, subst, arith, unwrap_or, append_assoc, length-append}
use Rattle.std.specs.List.{AllByRecursion, find, list_any, list_all, slice_get, position, enumerate_from}
use Rattle.std.specs.Option.{option_map}
use Rattle.std.specs.Prelude.{nat_lt, nat_le, if◌then◌else◌}
use Rattle.std.specs.Str.{bytes_eq}
use Rattle.std.proofs.lemmas.Bool.Decides.{nat_tests}
use Rattle.std.proofs.lemmas.List.{length-map, map-append}
use Rattle.std.proofs.lemmas.Option.{slice_get-map}
use Rattle.std.proofs.lemmas.Slice.Eq.{bytes_eq-Decides}
use Rattle.bpl_ast.specs.declared.decl.Ast.{Ast}
use Rattle.bpl_ast.specs.declared.decl.Axiom.{Axiom}
use Rattle.bpl_ast.specs.declared.decl.Body.{Body}
use Rattle.bpl_ast.specs.declared.decl.Constants.{Constants}
use Rattle.bpl_ast.specs.declared.decl.Decl.{Decl}
use Rattle.bpl_ast.specs.declared.decl.Decl.TheVariants as decls
use Rattle.bpl_ast.specs.declared.decl.Function.{Function}
use Rattle.bpl_ast.specs.declared.decl.FunctionArgument.{FunctionArgument}
use Rattle.bpl_ast.specs.declared.decl.Heads.{Heads}
use Rattle.bpl_ast.specs.declared.decl.Implementation.{Implementation}
use Rattle.bpl_ast.specs.declared.decl.Procedure.{Procedure}
use Rattle.bpl_ast.specs.declared.decl.Synonym.{Synonym}
use Rattle.bpl_ast.specs.declared.name.Name.{Name}
use Rattle.bpl_ast.specs.declared.stmt.Stmt.{Stmt}
use Rattle.hy_val.specs.NodeSorts.{is_sort, same_sort}
use Rattle.hy_val.specs.declared.sort.Sort.{Sort as Resolved}
use Rattle.hy_val.specs.Scope.{is_condition}
use Rattle.hy_val.specs.Scope as src
use Rattle.hy_val.specs.Scope.{ascend_from}
use Rattle.type_pass.specs.declared.fault.TypeFault.{TypeFault}
use Rattle.type_pass.specs.declared.fault.TypeKind.TheVariants.{Arity, Mismatch, Cyclic}
use Rattle.type_pass.specs.declared.tables.Heading.{Heading}
use Rattle.type_pass.specs.declared.tables.Scope.{Scope}
use Rattle.type_pass.specs.declared.tables.Tables.{Tables}
use Rattle.type_pass.specs.declared.tables.Named.{Named}
use Rattle.bpl_type.specs.declared.typed.Typed.{Typed}
use Rattle.bpl_type.specs.declared.typed.TypedProc.{TypedProc}
use Rattle.bpl_type.specs.Checked.{after_names, after_sorts, after_heads, after_commands, after_circles, after_sizes, checked_within}
use Rattle.type_pass.specs.Commands.{condition_faults, stmt_faults, differ}
use Rattle.type_pass.specs.Declarations.{Declared, declared, synonyms, functions, procedures, implementations, axioms, constants, constant_groups, globals, unique_flags, flags_of, in_constants, in_parameters, in_heads, in_body, function_of, axiom_of, procedure_of, implementation_of}
use Rattle.type_pass.specs.Faults.{first, told}
use Rattle.type_pass.specs.Graphs.{is_on_circle}
use Rattle.type_pass.specs.Meanings.{meaning_of}
use Rattle.type_pass.specs.Passes.{twice_faults, sorts_faults, heads_faults, head_faults, commands_faults, command_faults, circle_faults, large_faults, use_graph, function_faults, operator_faults, body_faults, same_sorts, implementation_faults}
use Rattle.type_pass.specs.Scopes.{tables_of, signature_of, argument_of, named_of, sort_in, heading_of, is_implemented, axiom_scope, function_scope, procedure_named, body_number}
use Rattle.type_pass.specs.Scopes as scopes
use Rattle.bpl_type.specs.TypedOf.{Formed, formed, formed_by, formed_with, formed_proc, proc_of, body_of, places_from, typed_of, expr_of, stmt_of}
use Rattle.bpl_type.specs.WellTyped.{sorts_of, have_sorts, constant_scope, body_fits, proc_fits, callees_of, stmt_fits, is_typed}
use Rattle.bpl_type.specs.WellTyped as well
use Rattle.bpl_type.proofs.Elements.{both, and-true, some-is, all_flat, all_so, all_at, tests_all, nil-split, all_nil, found, find_passes, find-map, found-map, numbered, position-map, element-at}
use Rattle.bpl_type.proofs.FunctionsFit.{FunctionsSound, told-false, told-not}
use Rattle.bpl_type.proofs.Places.{HaveSorts, SortsKnown, place}
use Rattle.bpl_type.proofs.Preserved.{same_sort-is}
use Rattle.bpl_type.proofs.ResolvedSorts.{sort-is}
use Rattle.bpl_type.proofs.StmtsFit.{CallsFit, condition-fits, stmt-fits}

-- ---- look-ups

find-filter : {A : Type 0} (p q : A → Bool) (xs : List A) (x : A) → find p xs ≡ Some x → q x ≡ true → find p (filter q xs) ≡ Some x
find-filter p q [] x h k = absurd (cc)
find-filter p q (y ∷ ys) x h k = filter-if (p y) (q y) refl refl h (find-filter p q ys x)
  where
    filter-if : (a b : Bool) → p y ≡ a → q y ≡ b → (if a then Some y else find p ys) ≡ Some x → (find p ys ≡ Some x → q x ≡ true → find p (filter q ys) ≡ Some x)
        → find p (if b then y ∷ filter q ys else filter q ys) ≡ Some x
    filter-if true true is so g rest = ap (λ (c : Bool). if c then Some y else find p (filter q ys)) is ∙ g
    filter-if true false is so g rest = absurd (cc (some-is y x g, k, so))
    filter-if false true is so g rest = ap (λ (c : Bool). if c then Some y else find p (filter q ys)) is ∙ rest g k
    filter-if false false is so g rest = rest g k

filter-map : {A B : Type 0} (q : B → Bool) (f : A → B) (xs : List A) → filter q (map f xs) ≡ map f (filter (λ x. q (f x)) xs)
filter-map q f [] = refl
filter-map q f (x ∷ xs) = map-if (q (f x)) (filter-map q f xs)
  where
    map-if : (b : Bool) → filter q (map f xs) ≡ map f (filter (λ y. q (f y)) xs)
        → (if b then f x ∷ filter q (map f xs) else filter q (map f xs)) ≡ map f (if b then x ∷ filter (λ y. q (f y)) xs else filter (λ y. q (f y)) xs)
    map-if true h = ap (λ ys. f x ∷ ys) h
    map-if false h = h

filter-same : {A : Type 0} (p q : A → Bool) → ((x : A) → p x ≡ q x) → (xs : List A) → filter p xs ≡ filter q xs
filter-same p q same [] = refl
filter-same p q same (x ∷ xs) = ap (λ (b : Bool). if b then x ∷ filter p xs else filter p xs) (same x) ∙ ap (λ ys. if q x then x ∷ ys else ys) (filter-same p q same xs)

any-find : {A : Type 0} (p : A → Bool) (xs : List A) → list_any p xs ≡ is_some (find p xs)
any-find p [] = refl
any-find p (x ∷ xs) = find-if (p x) (any-find p xs)
  where
    find-if : (b : Bool) → list_any p xs ≡ is_some (find p xs) → (b || list_any p xs) ≡ is_some (if b then Some x else find p xs)
    find-if true h = refl
    find-if false h = h

-- an element that a look-up finds is one of them
all-found : {A : Type 0} (P : A → Type 0) (p : A → Bool) (xs : List A) (x : A) → AllByRecursion P xs → find p xs ≡ Some x → P x
all-found P p xs x all h = let r = found p xs x h in all_at P xs r.place x all r.at

-- ---- sorts of names

pub sorts-are : (types : List Synonym) (ds : List Declared) → HaveSorts (map (named_of types) ds)
sorts-are types [] = tt
sorts-are types (d ∷ ds) = (sort-is types d.sort, sorts-are types ds)

arguments-are : (types : List Synonym) (xs : List FunctionArgument) → HaveSorts (map (argument_of types) xs)
arguments-are types [] = tt
arguments-are types (x ∷ xs) = (sort-is types x.sort, arguments-are types xs)

have-sorts : (types : List Synonym) (ds : List Declared) → have_sorts (map (named_of types) ds) ≡ true
have-sorts types ds = tests_all (λ (n : Named). is_sort n.sort) (map (named_of types) ds) (sorts-are types ds)

sorts-named : (types : List Synonym) (ds : List Declared) → sorts_of (map (named_of types) ds) ≡ map (sort_in types) ds
sorts-named types [] = refl
sorts-named types (d ∷ ds) = ap (λ ss. sort_in types d ∷ ss) (sorts-named types ds)

same-sorts-are : (ss ts : List Resolved) → same_sorts ss ts ≡ true → ss ≡ ts
same-sorts-are [] [] h = refl
same-sorts-are [] (t ∷ ts) h = absurd (cc)
same-sorts-are (s ∷ ss) [] h = absurd (cc)
same-sorts-are (s ∷ ss) (t ∷ ts) h =
    let r = both (same_sort s t) (same_sorts ss ts) h in
    ap (λ x. x ∷ ss) (same_sort-is s t r.0) ∙ ap (λ xs. t ∷ xs) (same-sorts-are ss ts r.1)

-- ---- unique constants

places-ascend : (flags : List Bool) (least n m : ℕ) → least ≤ n → n + length flags ≤ m → ascend_from least m (places_from n flags) ≡ true
places-ascend [] least n m low high = refl
places-ascend (true ∷ flags) least n m low high =
    let below : nat_le least n ≡ true = grind (arith, nat_tests) in
    let above : nat_lt n m ≡ true = grind (arith, nat_tests) in
    let more : n + 1 + length flags ≤ m = omega arith in
    let next : n + 1 ≤ n + 1 = omega arith in
    and-true (nat_le least n) (nat_lt n m && ascend_from (n + 1) m (places_from (n + 1) flags)) below
    (and-true (nat_lt n m) (ascend_from (n + 1) m (places_from (n + 1) flags)) above (places-ascend flags (n + 1) (n + 1) m next more))
places-ascend (false ∷ flags) least n m low high =
    let more : n + 1 + length flags ≤ m = omega arith in
    let next : least ≤ n + 1 = omega arith in
    places-ascend flags least (n + 1) m next more

flags-counted : (groups : List Constants) → length (flat_map flags_of groups) ≡ length (flat_map in_constants groups)
flags-counted [] = refl
flags-counted (c ∷ cs) =
    let flags : length (flags_of c) ≡ length c.names = length-map c.names (λ (n : Name). c.unique) in
    let names : length (in_constants c) ≡ length c.names = length-map c.names (declared c.sort) in
    let rest = flags-counted cs in
    length-append (flags_of c) (flat_map flags_of cs) ∙ omega (arith, length-append (in_constants c) (flat_map in_constants cs))

-- ---- what an answer says of the passes

pub first-none : (faults : List TypeFault) → first faults ≡ None → faults ≡ []
first-none [] h = refl
first-none (f ∷ fs) h = absurd (cc)

-- no pass has a fault
pub record NoFaults (ast : Ast) : Type 0 where
  pub heads : heads_faults ast ≡ []
  pub commands : commands_faults ast ≡ []
  pub circles : circle_faults ast ≡ []

module _ (limit : ℕ) (ast : Ast) (typed : Typed) where
  passed-names : (o : Option TypeFault) → after_names limit ast o ≡ Ok typed → after_sorts limit ast (first (sorts_faults ast)) ≡ Ok typed
  passed-names None h = h
  passed-names (Some f) h = absurd (cc)

  passed-sorts : (o : Option TypeFault) → after_sorts limit ast o ≡ Ok typed → after_heads limit ast (first (heads_faults ast)) ≡ Ok typed
  passed-sorts None h = h
  passed-sorts (Some f) h = absurd (cc)

  passed-heads : (o : Option TypeFault) → after_heads limit ast o ≡ Ok typed → (o ≡ None) × (after_commands limit ast (first (commands_faults ast)) ≡ Ok typed)
  passed-heads None h = (refl, h)
  passed-heads (Some f) h = absurd (cc)

  passed-commands : (o : Option TypeFault) → after_commands limit ast o ≡ Ok typed → (o ≡ None) × (after_circles limit ast (first (circle_faults ast)) ≡ Ok typed)
  passed-commands None h = (refl, h)
  passed-commands (Some f) h = absurd (cc)

  passed-circles : (o : Option TypeFault) → after_circles limit ast o ≡ Ok typed → (o ≡ None) × (after_sizes ast (first (large_faults limit ast)) ≡ Ok typed)
  passed-circles None h = (refl, h)
  passed-circles (Some f) h = absurd (cc)

  passed-sizes : (o : Option TypeFault) → after_sizes ast o ≡ Ok typed → typed_of ast ≡ typed
  passed-sizes None h = cc
  passed-sizes (Some f) h = absurd (cc)

  passed : checked_within limit ast ≡ Ok typed → NoFaults ast × (typed_of ast ≡ typed)
  passed h =
      let a = passed-sorts (first (sorts_faults ast)) (passed-names (first (twice_faults ast)) h) in
      let b = passed-heads (first (heads_faults ast)) a in
      let c = passed-commands (first (commands_faults ast)) b.1 in
      let d = passed-circles (first (circle_faults ast)) c.1 in (
        record { heads = first-none (heads_faults ast) b.0; commands = first-none (commands_faults ast) c.0; circles = first-none (circle_faults ast) d.0 },
        passed-sizes (first (large_faults limit ast)) d.1,
      )

-- ---- the parts of a program without faults

module _ (ast : Ast) (none : NoFaults ast) where
  abbrev t : Tables
  t = tables_of ast

  abbrev types : List Synonym
  types = synonyms ast

  abbrev fs : List Function
  fs = functions ast

  in-functions : (d : Decl) → command_faults ast d ≡ [] → AllByRecursion (λ f. function_faults t (signature_of types f) f.body ≡ []) (function_of d)
  in-functions (decls.Function f) h = (h, tt)
  in-functions _ h = tt

  in-operators : (d : Decl) → head_faults ast d ≡ [] → AllByRecursion (λ f. operator_faults f.name.at (signature_of types f) (meaning_of f) ≡ []) (function_of d)
  in-operators (decls.Function f) h = (h, tt)
  in-operators _ h = tt

  in-axioms : (d : Decl) → command_faults ast d ≡ [] → AllByRecursion (λ a. condition_faults t axiom_scope a.condition ≡ []) (axiom_of d)
  in-axioms (decls.Axiom a) h = (h, tt)
  in-axioms _ h = tt

  in-procedures : (d : Decl) → command_faults ast d ≡ [] → AllByRecursion (λ p. body_faults t types p.heads p.body ≡ []) (procedure_of d)
  in-procedures (decls.Procedure p) h = (h, tt)
  in-procedures _ h = tt

  in-implementations : (d : Decl) → command_faults ast d ≡ [] → AllByRecursion (λ i. body_faults t types i.heads (Some i.body) ≡ []) (implementation_of d)
  in-implementations (decls.Implementation i) h = (h, tt)
  in-implementations _ h = tt

  -- an implementation has the heads of its procedure
  abbrev HeadsFit : Implementation → Type 0
  HeadsFit i = implementation_faults i.name.at (procedure_named t i.name.text) (map (sort_in types) (flat_map in_parameters i.heads.ins)) (map (sort_in types) (flat_map in_parameters i.heads.outs)) ≡ []

  in-heads : (d : Decl) → head_faults ast d ≡ [] → AllByRecursion HeadsFit (implementation_of d)
  in-heads (decls.Implementation i) h = (h, tt)
  in-heads _ h = tt

  -- what holds of the parts of each declaration holds of all parts
  each : {A : Type 0} (faults : Decl → List TypeFault) (P : A → Type 0) (of : Decl → List A) → ((d : Decl) → faults d ≡ [] → AllByRecursion P (of d)) → flat_map faults ast.decls ≡ []
      → AllByRecursion P (flat_map of ast.decls)
  each faults P of so h = all_flat P of ast.decls (all_so (λ d. faults d ≡ []) (λ d. AllByRecursion P (of d)) so ast.decls (all_nil faults ast.decls h))

  no-circle : (i : ℕ) → i < length fs → is_on_circle (use_graph fs) i ≡ false
  no-circle i below =
      let x = element-at fs i below in
      let named : slice_get (map (λ f. f.name) fs) i ≡ Some x.0.name = slice_get-map (λ (f : Function). f.name) fs i ∙ ap (option_map (λ (f : Function). f.name)) x.1 in
      let at : slice_get (enumerate_from 0 (map (λ f. f.name) fs)) i ≡ Some (i, x.0.name) = numbered 0 (map (λ (f : Function). f.name) fs) i x.0.name named ∙ ap (λ (m : ℕ). Some (m, x.0.name)) (omega arith) in
      let all = all_nil (λ (n : ℕ × Name). told (is_on_circle (use_graph fs) n.0) n.1.at Cyclic) (enumerate_from 0 (map (λ (f : Function). f.name) fs)) none.circles in
      told-false (is_on_circle (use_graph fs) i) x.0.name.at Cyclic (all_at (λ (n : ℕ × Name). told (is_on_circle (use_graph fs) n.0) n.1.at Cyclic ≡ []) (enumerate_from 0 (map (λ (f : Function). f.name) fs)) i (i, x.0.name) all at)

  pub known-in : (s : Scope) → HaveSorts s.locals → SortsKnown t s
  known-in s h = record { consts = sorts-are types (constants ast); globals = sorts-are types (globals ast); locals = h }

  pub sound : FunctionsSound ast
  sound = record {
    bodies = each (command_faults ast) (λ (f : Function). function_faults t (signature_of types f) f.body ≡ []) function_of in-functions none.commands;
    operators = each (head_faults ast) (λ (f : Function). operator_faults f.name.at (signature_of types f) (meaning_of f) ≡ []) function_of in-operators none.heads;
    circles = no-circle;
    scopes = λ f. known-in (function_scope (signature_of types f)) (arguments-are types f.arguments);
  }

  -- ---- procedures and their heads

  -- the sorts of the heads from which a typed procedure is formed
  abbrev FromHeads : Procedure → Heads → Type 0
  FromHeads p h = (map (sort_in types) (flat_map in_parameters h.ins) ≡ (heading_of ast p).ins) × (map (sort_in types) (flat_map in_parameters h.outs) ≡ (heading_of ast p).outs)

  heads-same : (at : ℕ) (q : Heading) (ins outs : List Resolved) → implementation_faults at (Some q) ins outs ≡ [] → (ins ≡ q.ins) × (outs ≡ q.outs)
  heads-same at q ins outs h = same-if (differ (length q.ins) (length ins) || differ (length q.outs) (length outs)) h
    where
      same-if : (b : Bool) → (if b then record { at = at; kind = Arity } ∷ [] else told (not (same_sorts q.ins ins && same_sorts q.outs outs)) at Mismatch) ≡ [] → (ins ≡ q.ins) × (outs ≡ q.outs)
      same-if true k = absurd (cc)
      same-if false k =
          let r = both (same_sorts q.ins ins) (same_sorts q.outs outs) (told-not (same_sorts q.ins ins && same_sorts q.outs outs) at Mismatch k) in
          (sym (same-sorts-are q.ins ins r.0), sym (same-sorts-are q.outs outs r.1))

  abbrev implements : List ℕ → Implementation → Bool
  implements text i = bytes_eq text i.name.text

  by-implementation : (p : Procedure) (o : Option Implementation) → procedure_named t p.name.text ≡ Some (heading_of ast p) → find (implements p.name.text) (implementations ast) ≡ o → FromHeads p (formed_by p.heads o).heads
  by-implementation p None named is = (refl, refl)
  by-implementation p (Some i) named is =
      let text : p.name.text ≡ i.name.text = (bytes_eq-Decides p.name.text i.name.text).0 (find_passes (implements p.name.text) (implementations ast) i is) in
      let fault : HeadsFit i = all-found HeadsFit (implements p.name.text) (implementations ast) i (each (head_faults ast) HeadsFit implementation_of in-heads none.heads) is in
      let of : procedure_named t i.name.text ≡ Some (heading_of ast p) = subst (λ x. procedure_named t x ≡ Some (heading_of ast p)) text named in
      heads-same i.name.at (heading_of ast p) (map (sort_in types) (flat_map in_parameters i.heads.ins)) (map (sort_in types) (flat_map in_parameters i.heads.outs))
      (subst (λ o. implementation_faults i.name.at o (map (sort_in types) (flat_map in_parameters i.heads.ins)) (map (sort_in types) (flat_map in_parameters i.heads.outs)) ≡ []) of fault)

  from-heads : (p : Procedure) (body : Option Body) → procedure_named t p.name.text ≡ Some (heading_of ast p) → FromHeads p (formed_with ast p body).heads
  from-heads p None named = by-implementation p (find (implements p.name.text) (implementations ast)) named refl
  from-heads p (Some body) named = (refl, refl)

  -- a typed procedure has a body where the procedure has one or an implementation
  has-body : (p : Procedure) (body : Option Body) → (is_some body || is_implemented ast p.name.text) ≡ is_some (formed_proc ast p.name.text (formed_with ast p body)).body
  has-body p (Some body) = refl
  has-body p None = any-find (implements p.name.text) (implementations ast) ∙ by-found (find (implements p.name.text) (implementations ast))
    where
      by-found : (o : Option Implementation) → is_some o ≡ is_some (formed_proc ast p.name.text (formed_by p.heads o)).body
      by-found None = refl
      by-found (Some i) = refl

  abbrev ps : List Procedure
  ps = procedures ast

  abbrev with_body : Procedure → Bool
  with_body p = (heading_of ast p).has_body

  abbrev pub called : List TypedProc
  called = callees_of (map (proc_of ast) ps)

  called-is : called ≡ map (proc_of ast) (filter with_body ps)
  called-is = filter-map (λ q. is_some q.body) (proc_of ast) ps ∙ ap (map (proc_of ast)) (filter-same (λ p. is_some (proc_of ast p).body) with_body (λ p. sym (has-body p p.body)) ps)

  pub calls : CallsFit t called
  calls text h named body =
      let first : Option Procedure = find (λ p. bytes_eq text p.name.text) ps in
      let fm = found-map (heading_of ast) (find (λ p. bytes_eq text p.name.text) ps) h (sym (find-map (λ q. bytes_eq text q.name) (heading_of ast) ps) ∙ named) in
      let p = fm.0 in
      let has : with_body p ≡ true = subst (λ (q : Heading). q.has_body ≡ true) (sym fm.2) body in
      let r = found (λ q. bytes_eq text q.name.text) (filter with_body ps) p (find-filter (λ q. bytes_eq text q.name.text) with_body ps p fm.1 has) in
      let place : position (λ q. bytes_eq text q.name) (filter (λ q. q.has_body) (map (heading_of ast) ps)) ≡ Some r.place =
      ap (position (λ (q : Heading). bytes_eq text q.name)) (filter-map (λ (q : Heading). q.has_body) (heading_of ast) ps)
      ∙ position-map (λ (q : Heading). bytes_eq text q.name) (heading_of ast) (filter with_body ps) ∙ r.is_place in
      let number : body_number t text ≡ r.place = ap (λ o. unwrap_or o 0) place in
      let at : slice_get called (body_number t text) ≡ Some (proc_of ast p) =
      ap (λ xs. slice_get xs (body_number t text)) called-is ∙ ap (slice_get (map (proc_of ast) (filter with_body ps))) number
      ∙ slice_get-map (proc_of ast) (filter with_body ps) r.place ∙ ap (option_map (proc_of ast)) r.at in
      let same : text ≡ p.name.text = (bytes_eq-Decides text p.name.text).0 r.passes in
      let own : procedure_named t p.name.text ≡ Some (heading_of ast p) = subst (λ x. procedure_named t x ≡ Some (heading_of ast p)) same (named ∙ ap Some (sym fm.2)) in
      let heads = from-heads p p.body own in (
        proc_of ast p,
        at,
        sorts-named types (flat_map in_parameters (formed ast p).heads.ins) ∙ heads.0 ∙ ap (λ (q : Heading). q.ins) fm.2,
        sorts-named types (flat_map in_parameters (formed ast p).heads.outs) ∙ heads.1 ∙ ap (λ (q : Heading). q.outs) fm.2,
      )

  -- ---- axioms and bodies

  abbrev program : Typed
  program = typed_of ast

  axioms-fit : (xs : List Axiom) → AllByRecursion (λ a. condition_faults t axiom_scope a.condition ≡ []) xs → list_all (is_condition (constant_scope program)) (map (λ a. expr_of t fs axiom_scope a.condition) xs) ≡ true
  axioms-fit [] h = refl
  axioms-fit (a ∷ xs) h =
      and-true (is_condition (constant_scope program) (expr_of t fs axiom_scope a.condition)) (list_all (is_condition (constant_scope program)) (map (λ x. expr_of t fs axiom_scope x.condition) xs))
      (condition-fits ast sound axiom_scope (known-in axiom_scope tt) called calls a.condition h.0) (axioms-fit xs h.1)

  pub stmts-fit : (s : Scope) → HaveSorts s.locals → (xs : List Stmt) → flat_map (stmt_faults t s) xs ≡ [] → list_all (stmt_fits called (place t s)) (map (stmt_of t fs s) xs) ≡ true
  stmts-fit s known [] h = refl
  stmts-fit s known (x ∷ xs) h =
      let r = nil-split (stmt_faults t s x) (flat_map (stmt_faults t s) xs) h in
      and-true (stmt_fits called (place t s) (stmt_of t fs s x)) (list_all (stmt_fits called (place t s)) (map (stmt_of t fs s) xs))
      (stmt-fits ast sound s (known-in s known) called calls x r.0) (stmts-fit s known xs r.1)

  locals-split : (heads : Heads) (body : Body) → sorts_of (map (named_of types) (in_heads heads ++ in_body body))
      ≡ sorts_of (map (named_of types) (flat_map in_parameters heads.ins)) ++ (sorts_of (map (named_of types) (flat_map in_parameters heads.outs)) ++ sorts_of (map (named_of types) (in_body body)))
  locals-split heads body =
      ap sorts_of (map-append (named_of types) (in_heads heads) (in_body body))
      ∙ map-append (λ (n : Named). n.sort) (map (named_of types) (in_heads heads)) (map (named_of types) (in_body body))
      ∙ ap (λ xs. xs ++ sorts_of (map (named_of types) (in_body body)))
      (ap sorts_of (map-append (named_of types) (flat_map in_parameters heads.ins) (flat_map in_parameters heads.outs))
      ∙ map-append (λ (n : Named). n.sort) (map (named_of types) (flat_map in_parameters heads.ins)) (map (named_of types) (flat_map in_parameters heads.outs)))
      ∙ append_assoc (sorts_of (map (named_of types) (flat_map in_parameters heads.ins))) (sorts_of (map (named_of types) (flat_map in_parameters heads.outs))) (sorts_of (map (named_of types) (in_body body)))

  body-of-fits : (name : List ℕ) (heads : Heads) (body : Option Body) → body_faults t types heads body ≡ [] → body_fits program (formed_proc ast name (record { heads = heads; body = body })) (option_map (body_of ast heads) body) ≡ true
  body-of-fits name heads None h = refl
  body-of-fits name heads (Some body) h =
      let s = scopes.body_scope types heads body in
      let own : src.Scope = well.body_scope program (formed_proc ast name (record { heads = heads; body = Some body })) (body_of ast heads body) in
      and-true (have_sorts (map (named_of types) (in_body body))) (list_all (stmt_fits called own) (map (stmt_of t fs s) body.statements)) (have-sorts types (in_body body))
      (subst (λ ls. list_all (stmt_fits called (record { consts = sorts_of t.consts; globals = sorts_of t.globals; locals = ls })) (map (stmt_of t fs s) body.statements) ≡ true) (locals-split heads body)
      (stmts-fit s (sorts-are types (in_heads heads ++ in_body body)) body.statements h))

  formed-fits : (name : List ℕ) (f : Formed) → body_faults t types f.heads f.body ≡ [] → proc_fits program (formed_proc ast name f) ≡ true
  formed-fits name f h =
      and-true _ (body_fits program (formed_proc ast name f) (option_map (body_of ast f.heads) f.body))
      (and-true (have_sorts (map (named_of types) (flat_map in_parameters f.heads.ins))) (have_sorts (map (named_of types) (flat_map in_parameters f.heads.outs)))
      (have-sorts types (flat_map in_parameters f.heads.ins)) (have-sorts types (flat_map in_parameters f.heads.outs)))
      (body-of-fits name f.heads f.body h)

  pub form-faultless : (p : Procedure) (body : Option Body) → body_faults t types p.heads body ≡ [] → body_faults t types (formed_with ast p body).heads (formed_with ast p body).body ≡ []
  form-faultless p (Some body) h = h
  form-faultless p None h = by-found (find (implements p.name.text) (implementations ast)) refl
    where
      by-found : (o : Option Implementation) → find (implements p.name.text) (implementations ast) ≡ o → body_faults t types (formed_by p.heads o).heads (formed_by p.heads o).body ≡ []
      by-found None is = refl
      by-found (Some i) is =
          all-found (λ (j : Implementation). body_faults t types j.heads (Some j.body) ≡ []) (implements p.name.text) (implementations ast) i
          (each (command_faults ast) (λ (j : Implementation). body_faults t types j.heads (Some j.body) ≡ []) implementation_of in-implementations none.commands) is

  procs-fit : (xs : List Procedure) → AllByRecursion (λ p. body_faults t types p.heads p.body ≡ []) xs → list_all (proc_fits program) (map (proc_of ast) xs) ≡ true
  procs-fit [] h = refl
  procs-fit (p ∷ xs) h =
      and-true (proc_fits program (proc_of ast p)) (list_all (proc_fits program) (map (proc_of ast) xs)) (formed-fits p.name.text (formed ast p) (form-faultless p p.body h.0)) (procs-fit xs h.1)

  uniques-ascend : ascend_from 0 (length program.consts) program.uniques ≡ true
  uniques-ascend =
      let counted = flags-counted (constant_groups ast) in
      let mapped = length-map (constants ast) (named_of types) in
      let low : 0 ≤ 0 = omega arith in
      let high : 0 + length (unique_flags ast) ≤ length program.consts = omega arith in
      places-ascend (unique_flags ast) 0 0 (length program.consts) low high

  pub typed-fits : is_typed (typed_of ast) ≡ true
  typed-fits =
      and-true (have_sorts program.consts && have_sorts program.globals) _
      (and-true (have_sorts program.consts) (have_sorts program.globals) (have-sorts types (constants ast)) (have-sorts types (globals ast)))
      (and-true (ascend_from 0 (length program.consts) program.uniques) _ uniques-ascend
      (and-true (list_all (is_condition (constant_scope program)) program.axioms) (list_all (proc_fits program) program.procs)
      (axioms-fit (axioms ast) (each (command_faults ast) (λ (a : Axiom). condition_faults t axiom_scope a.condition ≡ []) axiom_of in-axioms none.commands))
      (procs-fit ps (each (command_faults ast) (λ (p : Procedure). body_faults t types p.heads p.body ≡ []) procedure_of in-procedures none.commands))))

pub checked-fits : (ast : Ast) (limit : ℕ) (typed : Typed) → checked_within limit ast ≡ Ok typed → is_typed typed ≡ true
checked-fits ast limit typed h =
    let r = passed limit ast typed h in
    subst (λ (p : Typed). is_typed p ≡ true) r.1 (typed-fits ast r.0)
