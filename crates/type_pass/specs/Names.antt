-- Names, which are equal where their bytes are, and names that stand a second time.
use Rattle.std.specs.Prelude.{ℕ, Bool, List, [], ◌∷◌, ◌++◌, Option, None, Some}
use Rattle.std.specs.List.{list_any}
use Rattle.std.specs.Str.{bytes_eq}
use Rattle.bpl_ast.specs.declared.name.Name.{Name}
use Rattle.type_pass.specs.declared.fault.TypeFault.{TypeFault}
use Rattle.type_pass.specs.declared.fault.TypeKind.TheVariants.{Twice}
use Rattle.type_pass.specs.Faults.{told}

abbrev pub is_among : List Name → List ℕ → Bool
is_among names text = list_any (λ n. bytes_eq text n.text) names

-- each name that stands before, among the first names or among these
abbrev pub repeats_after : List Name → List Name → List TypeFault
repeats_after before [] = []
repeats_after before (n ∷ ns) = told (is_among before n.text) n.at Twice ++ repeats_after (before ++ n ∷ []) ns

-- each name that stands a second time, or a later one
abbrev pub repeats : List Name → List TypeFault
repeats names = repeats_after [] names

abbrev pub name_if : Option Name → List Name
name_if None = []
name_if (Some n) = n ∷ []
