-- The blocks become terms, one by one.
use Rattle.flat_prog.specs.Sites.{numbers_from}
use Rattle.std.specs.Prelude.{◌≡◌, ℕ, ◌+◌, true, false, ◌||◌, List, ◌++◌, map, length, take, replicate, slice_get, Some, IsTrue, IsSome}
use Rattle.hy_val.specs.Values.{is_on}
use Rattle.hy_val.specs.declared.sort.Sort.{Sort}
use Rattle.hy_val.specs.declared.value.Value.{Value}
use Rattle.hy_val.specs.declared.expr.Env.{Env}
use Rattle.hy_term.specs.TermSorts.{sorts, sort_at}
use Rattle.hy_term.specs.Meaning.{value, fits}
use Rattle.hy_term.specs.Variables.{below, reads}
use Rattle.hy_term.specs.declared.node.TermNode.{TermNode}
use Rattle.flat_prog.specs.declared.block.FlatNext.{FlatNext}
use Rattle.flat_prog.specs.declared.block.FlatBlock.{FlatBlock}
use Rattle.flat_prog.specs.declared.proc.FlatProc.{FlatProc}
use Rattle.passive_form.specs.Limited.{Limited}
use Rattle.passive_form.specs.Local.{sorted_as}
use Rattle.vc_gen.specs.Fold.{out_next, step, fold, seen, seen_at, reached, entered, through, edges_out, live_edges, choice_count}
use Rattle.vc_gen.specs.Passages.{passages_seen, all_passages, places_seen, all_places}
use Rattle.vc_gen.specs.Breaking.{breaks_seen, any_breaks}
use Rattle.vc_gen.specs.Alike.{Alike}
use Rattle.flat_prog.specs.Program.{variables_of}
use Rattle.passive_form.specs.Making.{passive_block, passive_blocks}
use Rattle.passive_form.specs.declared.PassiveBlock.{PassiveBlock}
use Rattle.passive_form.specs.Laws.{cmds_there, AllThere}
use Rattle.vc_gen.specs.declared.parts.Draft.{Draft}
use Rattle.vc_gen.specs.declared.parts.Wait.{Wait}
use Rattle.vc_gen.specs.declared.parts.EdgeTerm.{EdgeTerm}
use Rattle.vc_gen.specs.declared.parts.SiteTerm.{SiteTerm}
use Rattle.vc_gen.specs.declared.parts.FailTerm.{FailTerm}
use Rattle.vc_gen.specs.declared.parts.ValueTerm.{ValueTerm}
use Rattle.vc_gen.specs.Taken.{true_values, ValuesThere, values_seen, all_values}
use Rattle.vc_gen.specs.Standing.{Later, AreOf, variables_in}
use Rattle.vc_gen.specs.Items.{bool_sort}
use Rattle.vc_gen.specs.Emit.{FailsThere, site_value, SitesThere}
use Rattle.passive_form.specs.WellSorted.{ProcSorted}
use Rattle.vc_gen.specs.Signed.{SitesSigned, SitesAsked}
use Rattle.vc_gen.specs.Laid.{site_laid, calls_laid, blocks_laid}
use Rattle.vc_gen.specs.Singly.{assert_place, checks_at, blocks_checked, true_asserts, failed_sites, one_if, count_breaks}
use Rattle.vc_gen.specs.Exact.{true_edges, EdgesThere, SameCalls, true_sites}
use Rattle.vc_gen.specs.Inputs.{given_at, givens_at}
use Rattle.vc_gen.specs.Instance.{all_at, edges_at}
use Rattle.vc_gen.specs.Joins.{WaitOf, WaitsOf}
use Rattle.vc_gen.specs.Edges.{Framed, env_at, picked}
use Rattle.vc_gen.specs.Fitting.{BlockFits, AllFit, block_sorts, blocks_sorts}

-- the edges that leave a block have become terms
pub record LeftBy (old : List TermNode) (d : Draft) (next : FlatNext) (globals locals : List ℕ) (before : List Wait) (new : List TermNode) (e : Draft) (waits : List Wait) : Type 0 where
  pub later : Later old new
  pub frame : Framed d e
  pub next_is : e.next ≡ d.next + choice_count next
  pub below : IsTrue (below e.next new)
  pub numbers : variables_in new ≡ variables_in old ++ numbers_from d.next (choice_count next)
  pub more : List Wait
  pub waits_are : waits ≡ before ++ more
  pub of : (gs ls : List Sort) → AreOf old globals gs → AreOf old locals ls → WaitsOf new gs ls more
  pub says : (a : ℕ → Value) (consts : List Value) → IsTrue (fits a new) →
      edges_at a new consts more ≡ out_next next (is_on (value a old d.cond)) (env_at a old consts globals locals) (picked a d.next (choice_count next))
  pub fit : (a : ℕ → Value) → IsTrue (fits a old) → sorted_as (replicate (choice_count next) bool_sort) (reads a d.next (choice_count next)) ≡ true → IsTrue (fits a new)

-- what stands between two blocks: the terms of the constants, the edges that wait, and a spare edge that is never passed
pub record Stage (csorts gsorts lsorts : List Sort) (nodes : List TermNode) (cs : List ℕ) (spare : Wait) (d : Draft) (waits : List Wait) : Type 0 where
  pub sound : IsSome (sorts nodes)
  pub consts : AreOf nodes cs csorts
  pub spare_of : WaitOf nodes gsorts lsorts spare
  pub spare_off : (a : ℕ → Value) → is_on (value a nodes spare.live) ≡ false
  pub waits_of : WaitsOf nodes gsorts lsorts waits
  pub fails : sort_at nodes d.fails ≡ Some bool_sort
  pub below : IsTrue (below d.next nodes)

pub record BlockReady (nodes : List TermNode) (cs : List ℕ) (spare : Wait) (d : Draft) (waits : List Wait) (block : PassiveBlock) : Type 0 where
  pub csorts : List Sort
  pub gsorts : List Sort
  pub lsorts : List Sort
  pub stage : Stage csorts gsorts lsorts nodes cs spare d waits
  pub fit : BlockFits csorts gsorts lsorts block

-- the terms of a block do with the waiting edges what the block does, and its fail bit is that of the block
pub record BlockSays (flat : Limited) (q : FlatProc) (n : ℕ) (cs : List ℕ) (old : List TermNode) (d : Draft) (waits : List Wait) (new : List TermNode) (e : Draft) (left : List Wait) (marks : List EdgeTerm) (sites : List SiteTerm) (asserts : List FailTerm) (vals : List ValueTerm) : Type 0 where
  pub alike : (a : ℕ → Value) (dead : Env) → IsTrue (fits a new) →
      Alike (edges_at a new (all_at a new cs) left) (step flat q dead (given_at flat q a d.next n) (edges_at a old (all_at a old cs) waits))
  pub fails : (a : ℕ → Value) (dead : Env) → IsTrue (fits a new) →
      is_on (value a new e.fails) ≡ (is_on (value a old d.fails) || breaks_seen flat q (seen_at dead (given_at flat q a d.next n) (edges_at a old (all_at a old cs) waits)))
  pub edges : (a : ℕ → Value) (dead : Env) → IsTrue (fits a new) →
      true_edges a new marks ≡ edges_out n (through flat q (given_at flat q a d.next n) (entered n dead (edges_at a old (all_at a old cs) waits))) (reached n (edges_at a old (all_at a old cs) waits)) (slice_get q.blocks n)
      (given_at flat q a d.next n).choices
  pub calls : (a : ℕ → Value) (dead : Env) → IsTrue (fits a new) →
      SameCalls (map (site_value a new) sites) (passages_seen flat q (seen_at dead (given_at flat q a d.next n) (edges_at a old (all_at a old cs) waits)))
  pub places : (a : ℕ → Value) (dead : Env) → IsTrue (fits a new) →
      true_sites a new sites ≡ places_seen flat q (seen_at dead (given_at flat q a d.next n) (edges_at a old (all_at a old cs) waits))
  pub values : (a : ℕ → Value) (dead : Env) → IsTrue (fits a new) →
      true_values a new vals ≡ values_seen flat q (seen_at dead (given_at flat q a d.next n) (edges_at a old (all_at a old cs) waits))
  pub single : (a : ℕ → Value) (dead : Env) → IsTrue (fits a new) →
      length (true_asserts a new asserts) + length (failed_sites a new sites) ≡ one_if (breaks_seen flat q (seen_at dead (given_at flat q a d.next n) (edges_at a old (all_at a old cs) waits)))
  pub signed : SitesSigned flat new sites
  pub asked : ProcSorted flat q → SitesAsked flat new sites

pub record BlockDone (cs : List ℕ) (spare : Wait) (old : List TermNode) (d : Draft) (waits : List Wait) (edges : List EdgeTerm) (block : PassiveBlock) (new : List TermNode) (e : Draft) (edges' : List EdgeTerm) (left : List Wait) : Type 0 where
  pub later : Later old new
  pub marks : List EdgeTerm
  pub marks_are : edges' ≡ edges ++ marks
  pub marks_there : EdgesThere new marks
  pub sites : List SiteTerm
  pub sites_are : e.sites ≡ d.sites ++ sites
  pub sites_there : SitesThere new sites
  pub laid : map site_laid sites ≡ calls_laid block.number 0 d.next block.items
  pub asserts : List FailTerm
  pub asserts_are : e.asserts ≡ d.asserts ++ asserts
  pub asserts_there : FailsThere new asserts
  pub vals : List ValueTerm
  pub vals_are : e.values ≡ d.values ++ vals
  pub vals_there : ValuesThere new vals
  pub checked : map assert_place asserts ≡ checks_at block.number block.items
  pub next : e.next ≡ d.next + length (block_sorts block)
  pub numbers : variables_in new ≡ variables_in old ++ numbers_from d.next (length (block_sorts block))
  pub fit : (a : ℕ → Value) → IsTrue (fits a old) → sorted_as (block_sorts block) (reads a d.next (length (block_sorts block))) ≡ true → IsTrue (fits a new)
  pub stage : (csorts gsorts lsorts : List Sort) → Stage csorts gsorts lsorts old cs spare d waits → BlockFits csorts gsorts lsorts block → Stage csorts gsorts lsorts new cs spare e left
  pub says : (flat : Limited) (q : FlatProc) (n : ℕ) (b : FlatBlock) → slice_get q.blocks n ≡ Some b → cmds_there flat q b.cmds ≡ true → block ≡ passive_block flat q n b →
      Stage flat.consts flat.globals (variables_of q) old cs spare d waits → BlockSays flat q n cs old d waits new e left marks sites asserts vals

-- the blocks of this order have become terms
pub record WentSays (flat : Limited) (q : FlatProc) (order : List ℕ) (cs : List ℕ) (old : List TermNode) (d : Draft) (first : List Wait) (nodes : List TermNode) (e : Draft) (waits : List Wait) (marks : List EdgeTerm) (sites : List SiteTerm) (asserts : List FailTerm) (vals : List ValueTerm) : Type 0 where
  pub alike : (a : ℕ → Value) (dead : Env) → IsTrue (fits a nodes) →
      Alike (edges_at a nodes (all_at a nodes cs) waits) (fold flat q dead (givens_at flat q a d.next order) (edges_at a old (all_at a old cs) first))
  pub fails : (a : ℕ → Value) (dead : Env) → IsTrue (fits a nodes) →
      is_on (value a nodes e.fails) ≡ (is_on (value a old d.fails) || any_breaks flat q (seen flat q dead (givens_at flat q a d.next order) (edges_at a old (all_at a old cs) first)))
  pub edges : (a : ℕ → Value) (dead : Env) → IsTrue (fits a nodes) → true_edges a nodes marks ≡ live_edges flat q dead (givens_at flat q a d.next order) (edges_at a old (all_at a old cs) first)
  pub calls : (a : ℕ → Value) (dead : Env) → IsTrue (fits a nodes) →
      SameCalls (map (site_value a nodes) sites) (all_passages flat q (seen flat q dead (givens_at flat q a d.next order) (edges_at a old (all_at a old cs) first)))
  pub places : (a : ℕ → Value) (dead : Env) → IsTrue (fits a nodes) →
      true_sites a nodes sites ≡ all_places flat q (seen flat q dead (givens_at flat q a d.next order) (edges_at a old (all_at a old cs) first))
  pub values : (a : ℕ → Value) (dead : Env) → IsTrue (fits a nodes) →
      true_values a nodes vals ≡ all_values flat q (seen flat q dead (givens_at flat q a d.next order) (edges_at a old (all_at a old cs) first))
  pub single : (a : ℕ → Value) (dead : Env) → IsTrue (fits a nodes) →
      length (true_asserts a nodes asserts) + length (failed_sites a nodes sites) ≡ count_breaks flat q (seen flat q dead (givens_at flat q a d.next order) (edges_at a old (all_at a old cs) first))
  pub signed : SitesSigned flat nodes sites
  pub asked : ProcSorted flat q → SitesAsked flat nodes sites

-- all that the blocks ask for
pub record FlowReady (nodes : List TermNode) (cs : List ℕ) (spare : Wait) (d : Draft) (first : List Wait) (blocks : List PassiveBlock) : Type 0 where
  pub csorts : List Sort
  pub gsorts : List Sort
  pub lsorts : List Sort
  pub stage : Stage csorts gsorts lsorts nodes cs spare d first
  pub fit : AllFit csorts gsorts lsorts blocks

-- the first i blocks have become terms
pub record Went (cs : List ℕ) (spare : Wait) (old : List TermNode) (d : Draft) (edges : List EdgeTerm) (first : List Wait) (blocks : List PassiveBlock) (i : ℕ) (nodes : List TermNode) (e : Draft) (edges' : List EdgeTerm) (waits : List Wait) : Type 0 where
  pub later : Later old nodes
  pub marks : List EdgeTerm
  pub marks_are : edges' ≡ edges ++ marks
  pub marks_there : EdgesThere nodes marks
  pub sites : List SiteTerm
  pub sites_are : e.sites ≡ d.sites ++ sites
  pub sites_there : SitesThere nodes sites
  pub laid : map site_laid sites ≡ blocks_laid d.next (take i blocks)
  pub asserts : List FailTerm
  pub asserts_are : e.asserts ≡ d.asserts ++ asserts
  pub asserts_there : FailsThere nodes asserts
  pub vals : List ValueTerm
  pub vals_are : e.values ≡ d.values ++ vals
  pub vals_there : ValuesThere nodes vals
  pub checked : map assert_place asserts ≡ blocks_checked (take i blocks)
  pub next : e.next ≡ d.next + length (blocks_sorts (take i blocks))
  pub numbers : variables_in nodes ≡ variables_in old ++ numbers_from d.next (length (blocks_sorts (take i blocks)))
  pub fit : (a : ℕ → Value) → IsTrue (fits a old) → sorted_as (blocks_sorts (take i blocks)) (reads a d.next (length (blocks_sorts (take i blocks)))) ≡ true → IsTrue (fits a nodes)
  pub stage : (csorts gsorts lsorts : List Sort) → Stage csorts gsorts lsorts old cs spare d first → AllFit csorts gsorts lsorts blocks → Stage csorts gsorts lsorts nodes cs spare e waits
  pub says : (flat : Limited) (q : FlatProc) (order : List ℕ) → blocks ≡ passive_blocks flat q order → AllThere flat q order →
      Stage flat.consts flat.globals (variables_of q) old cs spare d first → AllFit flat.consts flat.globals (variables_of q) blocks → WentSays flat q (take i order) cs old d first nodes e waits marks sites asserts vals

-- all blocks have become terms
pub record WentAll (cs : List ℕ) (spare : Wait) (old : List TermNode) (d : Draft) (edges : List EdgeTerm) (first : List Wait) (blocks : List PassiveBlock) (nodes : List TermNode) (e : Draft) (edges' : List EdgeTerm) (waits : List Wait) : Type 0 where
  pub later : Later old nodes
  pub marks : List EdgeTerm
  pub marks_are : edges' ≡ edges ++ marks
  pub marks_there : EdgesThere nodes marks
  pub sites : List SiteTerm
  pub sites_are : e.sites ≡ d.sites ++ sites
  pub sites_there : SitesThere nodes sites
  pub laid : map site_laid sites ≡ blocks_laid d.next blocks
  pub asserts : List FailTerm
  pub asserts_are : e.asserts ≡ d.asserts ++ asserts
  pub asserts_there : FailsThere nodes asserts
  pub vals : List ValueTerm
  pub vals_are : e.values ≡ d.values ++ vals
  pub vals_there : ValuesThere nodes vals
  pub checked : map assert_place asserts ≡ blocks_checked blocks
  pub next : e.next ≡ d.next + length (blocks_sorts blocks)
  pub numbers : variables_in nodes ≡ variables_in old ++ numbers_from d.next (length (blocks_sorts blocks))
  pub fit : (a : ℕ → Value) → IsTrue (fits a old) → sorted_as (blocks_sorts blocks) (reads a d.next (length (blocks_sorts blocks))) ≡ true → IsTrue (fits a nodes)
  pub stage : (csorts gsorts lsorts : List Sort) → Stage csorts gsorts lsorts old cs spare d first → AllFit csorts gsorts lsorts blocks → Stage csorts gsorts lsorts nodes cs spare e waits
  pub says : (flat : Limited) (q : FlatProc) (order : List ℕ) → blocks ≡ passive_blocks flat q order → AllThere flat q order →
      Stage flat.consts flat.globals (variables_of q) old cs spare d first → AllFit flat.consts flat.globals (variables_of q) blocks → WentSays flat q order cs old d first nodes e waits marks sites asserts vals
