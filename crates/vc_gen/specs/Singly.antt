-- A run that fails does so at one place: an assert of the procedure, or a call whose callee fails.
use Rattle.std.specs.Prelude.{◌≡◌, ℕ, ◌+◌, Bool, true, false, List, [], ◌∷◌, ◌++◌, length, if◌then◌else◌, IsTrue}
use Rattle.hy_val.specs.Values.{is_on}
use Rattle.hy_val.specs.declared.value.Value.{Value}
use Rattle.hy_term.specs.Meaning.{value, fits}
use Rattle.hy_term.specs.declared.node.TermNode.{TermNode}
use Rattle.flat_prog.specs.declared.block.FlatCmd.{FlatCmd}
use Rattle.flat_prog.specs.declared.block.FlatCmd.TheVariants.{Assert}
use Rattle.flat_prog.specs.declared.proc.FlatProc.{FlatProc}
use Rattle.passive_form.specs.Limited.{Limited}
use Rattle.passive_form.specs.declared.Item.{Item}
use Rattle.passive_form.specs.declared.Item.TheVariants.{Let, Zero, Free, Need, Check, Site}
use Rattle.passive_form.specs.declared.PassiveBlock.{PassiveBlock}
use Rattle.vc_gen.specs.Breaking.{breaks_seen}
use Rattle.vc_gen.specs.Fold.{Seen}
use Rattle.vc_gen.specs.Inputs.{block_at}
use Rattle.vc_gen.specs.declared.parts.FailTerm.{FailTerm}
use Rattle.vc_gen.specs.declared.parts.SiteTerm.{SiteTerm}

-- the asserts whose bits are true, by block and position
abbrev pub true_asserts : (ℕ → Value) → List TermNode → List FailTerm → List (ℕ × ℕ)
true_asserts a nodes [] = []
true_asserts a nodes (f ∷ fs) = if is_on (value a nodes f.node) then (f.block, f.position) ∷ true_asserts a nodes fs else true_asserts a nodes fs

-- the calls that the run fails in, by block and number
abbrev pub failed_sites : (ℕ → Value) → List TermNode → List SiteTerm → List (ℕ × ℕ)
failed_sites a nodes [] = []
failed_sites a nodes (s ∷ ss) = if is_on (value a nodes s.fails) then (s.block, s.call) ∷ failed_sites a nodes ss else failed_sites a nodes ss

abbrev pub one_if : Bool → ℕ
one_if true = 1
one_if false = 0

-- where the fail bit is true, the run fails at exactly one assert or call; else at none
abbrev pub FailsOnce : List TermNode → ℕ → List FailTerm → List SiteTerm → Type 0
FailsOnce nodes fails asserts sites = (a : ℕ → Value) → IsTrue (fits a nodes) → length (true_asserts a nodes asserts) + length (failed_sites a nodes sites) ≡ one_if (is_on (value a nodes fails))

-- ---- which asserts there are

abbrev pub assert_place : FailTerm → ℕ × ℕ
assert_place f = (f.block, f.position)

-- the asserts among the commands of block n, where the first has this position
abbrev pub asserts_at : (n at : ℕ) → List FlatCmd → List (ℕ × ℕ)
asserts_at n at [] = []
asserts_at n at (Assert p number e ∷ cmds) = (n, at) ∷ asserts_at n (at + 1) cmds
asserts_at n at (cmd ∷ cmds) = asserts_at n (at + 1) cmds

-- those of the blocks in an order
abbrev pub asserts_laid : FlatProc → List ℕ → List (ℕ × ℕ)
asserts_laid q [] = []
asserts_laid q (n ∷ order) = asserts_at n 0 (block_at q n).cmds ++ asserts_laid q order

-- the same of items, and of passive blocks
abbrev pub check_by : ℕ → Item → List (ℕ × ℕ)
check_by n (Let v e) = []
check_by n (Zero v s) = []
check_by n (Free v s) = []
check_by n (Need e) = []
check_by n (Check position e) = (n, position) ∷ []
check_by n (Site p f args before outs changes after) = []

abbrev pub checks_at : ℕ → List Item → List (ℕ × ℕ)
checks_at n [] = []
checks_at n (i ∷ items) = check_by n i ++ checks_at n items

abbrev pub blocks_checked : List PassiveBlock → List (ℕ × ℕ)
blocks_checked [] = []
blocks_checked (b ∷ bs) = checks_at b.number b.items ++ blocks_checked bs

-- ---- the blocks that are reached and fail

abbrev pub count_breaks : Limited → FlatProc → List Seen → ℕ
count_breaks flat q [] = 0
count_breaks flat q (x ∷ xs) = one_if (breaks_seen flat q x) + count_breaks flat q xs
