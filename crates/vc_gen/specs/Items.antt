-- What the items of a block say, as far as terms are concerned: their sorts, what they are given, and where the run is and fails.
use Rattle.std.specs.Prelude.{◌≡◌, ℕ, Bool, false, not, ◌&&◌, ◌||◌, List, [], ◌∷◌, ◌++◌, map, length, slice_get, Option, None, Some, IsTrue, IsSome}
use Rattle.hy_val.specs.Exprs.{eval_by}
use Rattle.hy_val.specs.Building.{whole_sort}
use Rattle.hy_val.specs.NodeSorts.{is_sort}
use Rattle.hy_val.specs.Values.{is_on}
use Rattle.hy_val.specs.declared.sort.ScalarKind.TheVariants.{Bool as BoolSort}
use Rattle.hy_val.specs.declared.sort.Sort.{Sort}
use Rattle.hy_val.specs.declared.sort.SortKind.TheVariants.{Scalar as ScalarSort}
use Rattle.hy_val.specs.declared.value.Value.{Value}
use Rattle.hy_val.specs.declared.expr.Var.{Var}
use Rattle.hy_val.specs.declared.expr.Var.TheVariants.{Const, Global, Local}
use Rattle.hy_val.specs.declared.expr.ExprNode.{ExprNode}
use Rattle.hy_val.specs.declared.expr.ExprNode.TheVariants.{Var as Read}
use Rattle.passive_form.specs.Local.{replaced}
use Rattle.passive_form.specs.declared.Item.{Item}
use Rattle.passive_form.specs.declared.Item.TheVariants.{Let, Zero, Free, Need, Check, Site}
use Rattle.passive_form.specs.Making.{sort_or}
use Rattle.passive_form.specs.Versions.{look_at, outs_from, after_from, eval_all}

abbrev pub bool_sort : Sort
bool_sort = ScalarSort BoolSort

-- ---- sorts

-- the sorts of the versions that an item makes
abbrev pub made_by : Item → List Sort
made_by (Let v e) = sort_or (whole_sort e) ∷ []
made_by (Zero v s) = s ∷ []
made_by (Free v s) = s ∷ []
made_by (Need e) = []
made_by (Check p e) = []
made_by (Site p f args before outs changes after) = bool_sort ∷ (outs ++ after)

-- the sorts of expressions
abbrev pub sorts_of_all : List (List ExprNode) → List Sort
sorts_of_all [] = []
sorts_of_all (e ∷ es) = sort_or (whole_sort e) ∷ sorts_of_all es

abbrev pub made : List Item → List Sort
made [] = []
made (i ∷ items) = made_by i ++ made items

-- the sorts of what an assignment chooses for an item
abbrev pub chosen_by : Item → List Sort
chosen_by (Let v e) = []
chosen_by (Zero v s) = []
chosen_by (Free v s) = s ∷ []
chosen_by (Need e) = []
chosen_by (Check p e) = []
chosen_by (Site p f args before outs changes after) = bool_sort ∷ (outs ++ after)

abbrev pub chosen : List Item → List Sort
chosen [] = []
chosen (i ∷ items) = chosen_by i ++ chosen items

abbrev pub sort_in : List Sort → List Sort → Var → Option Sort
sort_in consts sorts (Const n) = slice_get consts n
sort_in consts sorts (Global n) = None
sort_in consts sorts (Local n) = slice_get sorts n

-- the variables of an expression are constants and versions of these sorts
abbrev pub ReadsIn : List Sort → List Sort → List ExprNode → Type 0
ReadsIn consts sorts [] = Unit {0}
ReadsIn consts sorts (Read x s ∷ nodes) = (sort_in consts sorts x ≡ Some s) × ReadsIn consts sorts nodes
ReadsIn consts sorts (node ∷ nodes) = ReadsIn consts sorts nodes

abbrev pub AllRead : List Sort → List Sort → List (List ExprNode) → Type 0
AllRead consts sorts [] = Unit {0}
AllRead consts sorts (e ∷ es) = ReadsIn consts sorts e × AllRead consts sorts es

abbrev pub AllThere : List Sort → List ℕ → Type 0
AllThere sorts [] = Unit {0}
AllThere sorts (v ∷ vs) = IsSome (slice_get sorts v) × AllThere sorts vs

abbrev pub AreSorts : List Sort → Type 0
AreSorts [] = Unit {0}
AreSorts (s ∷ ss) = IsTrue (is_sort s) × AreSorts ss

-- the item fits behind versions of these sorts, and its own are the next ones
abbrev pub ItemFits : List Sort → List Sort → Item → Type 0
ItemFits consts sorts (Let v e) = (v ≡ length sorts) × ReadsIn consts sorts e
ItemFits consts sorts (Zero v s) = (v ≡ length sorts) × IsTrue (is_sort s)
ItemFits consts sorts (Free v s) = (v ≡ length sorts) × IsTrue (is_sort s)
ItemFits consts sorts (Need e) = (whole_sort e ≡ Some bool_sort) × ReadsIn consts sorts e
ItemFits consts sorts (Check p e) = (whole_sort e ≡ Some bool_sort) × ReadsIn consts sorts e
ItemFits consts sorts (Site p f args before outs changes after) = (f ≡ length sorts) × AllRead consts sorts args × AllThere sorts before × AreSorts (outs ++ after)

abbrev pub ItemsFit : List Sort → List Sort → List Item → Type 0
ItemsFit consts sorts [] = Unit {0}
ItemsFit consts sorts (i ∷ items) = ItemFits consts sorts i × ItemsFit consts (sorts ++ made_by i) items

-- ---- what is chosen

abbrev pub input_of : (ℕ → Value) → Item → List Value
input_of vals (Let v e) = []
input_of vals (Zero v s) = []
input_of vals (Free v s) = vals v ∷ []
input_of vals (Need e) = []
input_of vals (Check p e) = []
input_of vals (Site p f args before outs changes after) = vals f ∷ (map vals (outs_from f outs) ++ map vals (after_from f outs after))

abbrev pub inputs : (ℕ → Value) → List Item → List Value
inputs vals [] = []
inputs vals (i ∷ items) = input_of vals i ++ inputs vals items

-- ---- where the run is and fails

-- a call, as the values of its terms
pub record SiteMeans : Type 0 where
  pub proc : ℕ
  pub on : Bool
  pub args : List Value
  pub before : List Value
  pub outs : List Value
  pub changed : List Value
  pub after : List Value
  pub fails : Bool

pub record FailMeans : Type 0 where
  pub block : ℕ
  pub position : ℕ
  pub fails : Bool

-- the run is behind the item, where it is before it
abbrev pub on_after : List Value → (ℕ → Value) → Bool → Item → Bool
on_after consts vals on (Let v e) = on
on_after consts vals on (Zero v s) = on
on_after consts vals on (Free v s) = on
on_after consts vals on (Need e) = on && is_on (eval_by (look_at consts vals) e)
on_after consts vals on (Check p e) = on && is_on (eval_by (look_at consts vals) e)
on_after consts vals on (Site p f args before outs changes after) = on && not (is_on (vals f))

abbrev pub on_end : List Value → (ℕ → Value) → Bool → List Item → Bool
on_end consts vals on [] = on
on_end consts vals on (i ∷ items) = on_end consts vals (on_after consts vals on i) items

-- the run fails in the item
abbrev pub fails_by : List Value → (ℕ → Value) → Bool → Item → Bool
fails_by consts vals on (Let v e) = false
fails_by consts vals on (Zero v s) = false
fails_by consts vals on (Free v s) = false
fails_by consts vals on (Need e) = false
fails_by consts vals on (Check p e) = on && not (is_on (eval_by (look_at consts vals) e))
fails_by consts vals on (Site p f args before outs changes after) = on && is_on (vals f)

-- the run has failed before, or fails in an item
abbrev pub fails_in : List Value → (ℕ → Value) → Bool → Bool → List Item → Bool
fails_in consts vals on failed [] = failed
fails_in consts vals on failed (i ∷ items) = fails_in consts vals (on_after consts vals on i) (failed || fails_by consts vals on i) items

abbrev pub site_by : List Value → (ℕ → Value) → Bool → Item → List SiteMeans
site_by consts vals on (Let v e) = []
site_by consts vals on (Zero v s) = []
site_by consts vals on (Free v s) = []
site_by consts vals on (Need e) = []
site_by consts vals on (Check p e) = []
site_by consts vals on (Site p f args before outs changes after) = record {
  proc = p;
  on = on;
  args = eval_all (look_at consts vals) args;
  before = map vals before;
  outs = map vals (outs_from f outs);
  changed = map vals (after_from f outs after);
  after = replaced changes (map vals before) (map vals (after_from f outs after));
  fails = on && is_on (vals f);
} ∷ []

abbrev pub sites_in : List Value → (ℕ → Value) → Bool → List Item → List SiteMeans
sites_in consts vals on [] = []
sites_in consts vals on (i ∷ items) = site_by consts vals on i ++ sites_in consts vals (on_after consts vals on i) items

abbrev pub assert_by : ℕ → List Value → (ℕ → Value) → Bool → Item → List FailMeans
assert_by block consts vals on (Let v e) = []
assert_by block consts vals on (Zero v s) = []
assert_by block consts vals on (Free v s) = []
assert_by block consts vals on (Need e) = []
assert_by block consts vals on (Check p e) = record { block = block; position = p; fails = on && not (is_on (eval_by (look_at consts vals) e)) } ∷ []
assert_by block consts vals on (Site p f args before outs changes after) = []

abbrev pub asserts_in : ℕ → List Value → (ℕ → Value) → Bool → List Item → List FailMeans
asserts_in block consts vals on [] = []
asserts_in block consts vals on (i ∷ items) = assert_by block consts vals on i ++ asserts_in block consts vals (on_after consts vals on i) items
