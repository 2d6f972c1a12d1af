-- The words of the command line: the command that they are, or the first word that breaks the rule.
use Rattle.std.specs.Prelude.{◌≡◌, ℕ, ◌+◌, Bool, true, false, ◌&&◌, nat_le, List, [], ◌∷◌, length, drop, Option, Some, None, Result, Ok, Err, slice_get, codes, if◌then◌else◌}
use Rattle.std.specs.Str.{bytes_eq}
use Rattle.std.specs.Str.Parse.{digits_value}
use Rattle.hy_text.specs.Number.{are_digits}
use Rattle.hy_text.specs.declared.refusal.Or.{Or}
use Rattle.hy_text.specs.declared.refusal.Or.TheVariants as ors
use Rattle.hydra_words.specs.declared.command.Command.{Command}
use Rattle.hydra_words.specs.declared.command.Command.TheVariants.{Check, Solo, Replay, Show, Gen}
use Rattle.hydra_words.specs.declared.command.WordFault.{WordFault}
use Rattle.hydra_words.specs.declared.command.WordKind.{WordKind}
use Rattle.hydra_words.specs.declared.command.WordKind.TheVariants.{Missing, Unexpected, NotNumber, OutOfRange, Repeated}
use Rattle.hydra_words.specs.declared.options.Options.{Options}
use Rattle.hydra_words.specs.declared.options.Grain.{Grain}
use Rattle.hydra_words.specs.declared.options.Grain.TheVariants.{NotGiven, Due, Given}

-- what is read from left to right: the first fault is the fault of all
infixl 10 ◌>>=◌
abbrev pub ◌>>=◌ : {A B : Type 0} → Result A WordFault → (A → Result B WordFault) → Result B WordFault
Ok x >>= next = next x
Err fault >>= next = Err fault

abbrev pub refused : {A : Type 0} → ℕ → WordKind → Result A WordFault
refused index kind = Err (record { index = index; kind = kind })

abbrev pub found_in : List (List ℕ) → Option (List ℕ) → Result (List ℕ) WordFault
found_in words (Some word) = Ok word
found_in words None = refused (length words) Missing

-- The word at a place, which is any text.
unfoldable pub text_at : List (List ℕ) → ℕ → Result (List ℕ) WordFault
text_at words index = found_in words (slice_get words index)

abbrev pub in_range : ℕ → ℕ → ℕ → Bool
in_range low high n = nat_le low n && nat_le n high

abbrev pub ranged : ℕ → ℕ → ℕ → ℕ → Result ℕ WordFault
ranged low high index n = if in_range low high n then Ok n else refused index OutOfRange

-- The number that a word writes in decimal digits, which must be in a range. Leading zeros may stand.
unfoldable pub number_in : ℕ → ℕ → ℕ → List ℕ → Result ℕ WordFault
number_in low high index word = if are_digits word then ranged low high index (digits_value 10 word) else refused index NotNumber

abbrev pub number_at : List (List ℕ) → ℕ → ℕ → ℕ → Result ℕ WordFault
number_at words index low high = text_at words index >>= λ word. number_in low high index word

-- No word stands at a place or behind it.
unfoldable pub ended_at : List (List ℕ) → ℕ → Result Bool WordFault
ended_at words index = if nat_le (length words) index then Ok true else refused index Unexpected

-- Options.

abbrev pub no_options : Options
no_options = record { grain = NotGiven; journal = false }

-- an option that is given already is repeated
abbrev pub once : ℕ → Bool → Options → Result Options WordFault
once index again options = if again then refused index Repeated else Ok options

abbrev pub is_given : Grain → Bool
is_given NotGiven = false
is_given Due = true
is_given (Given n) = true

abbrev pub is_due : Grain → Bool
is_due NotGiven = false
is_due Due = true
is_due (Given n) = false

abbrev pub with_name : ℕ → Options → List ℕ → Result Options WordFault
with_name index options word =
    if bytes_eq word (codes "--grain") then once index (is_given options.grain) (record options { grain = Due })
    else if bytes_eq word (codes "--journal") then once index options.journal (record options { journal = true })
    else refused index Unexpected

abbrev pub with_grain : ℕ → Options → List ℕ → Result Options WordFault
with_grain index options word = number_in 1 1000000 index word >>= λ n. Ok (record options { grain = Given n })

-- What the options say with one word more: the number of `--grain`, 1 to 1,000,000, where that is due, else the name of an option.
unfoldable pub with_word : ℕ → Options → List ℕ → Result Options WordFault
with_word index options word = if is_due options.grain then with_grain index options word else with_name index options word

-- all words are read, and no number is due
abbrev pub whole : ℕ → Options → Result Options WordFault
whole index options = if is_due options.grain then refused index Missing else Ok options

-- What the options say with the words from a place on, each read in turn.
unfoldable pub with_words : ℕ → Options → List (List ℕ) → Result Options WordFault
with_words index options [] = whole index options
with_words index options (word ∷ rest) = with_word index options word >>= λ more. with_words (index + 1) more rest

abbrev pub options_from : List (List ℕ) → ℕ → Result Options WordFault
options_from words index = with_words index no_options (drop index words)

-- the number of `--grain`, 16 where it isn't given
abbrev pub grain_of : Grain → ℕ
grain_of NotGiven = 16
grain_of Due = 16
grain_of (Given n) = n

-- Commands.

abbrev pub bound_at : List (List ℕ) → ℕ → Result ℕ WordFault
bound_at words index = number_at words index 1 1000

-- check FILE ENTRY BOUND WORKERS, and options
abbrev pub check_of : List (List ℕ) → Result Command WordFault
check_of words = do
  file ← text_at words 1
  entry ← text_at words 2
  bound ← bound_at words 3
  workers ← number_at words 4 1 64
  options ← options_from words 5
  Ok (Check file entry bound workers (grain_of options.grain) options.journal)

-- solo FILE ENTRY BOUND, and options
abbrev pub solo_of : List (List ℕ) → Result Command WordFault
solo_of words = do
  file ← text_at words 1
  entry ← text_at words 2
  bound ← bound_at words 3
  options ← options_from words 4
  Ok (Solo file entry bound (grain_of options.grain) options.journal)

-- replay FILE ENTRY BOUND TRACE
abbrev pub replay_of : List (List ℕ) → Result Command WordFault
replay_of words = do
  file ← text_at words 1
  entry ← text_at words 2
  bound ← bound_at words 3
  trace ← text_at words 4
  end ← ended_at words 5
  Ok (Replay file entry bound trace)

-- show FILE
abbrev pub show_of : List (List ℕ) → Result Command WordFault
show_of words = do
  file ← text_at words 1
  end ← ended_at words 2
  Ok (Show file)

-- gen SEED SIZE BOUND
abbrev pub gen_of : List (List ℕ) → Result Command WordFault
gen_of words = do
  seed ← number_at words 1 0 4294967295
  size ← number_at words 2 1 1000
  bound ← bound_at words 3
  end ← ended_at words 4
  Ok (Gen seed size bound)

abbrev pub command_named : List ℕ → List (List ℕ) → Result Command WordFault
command_named name words =
    if bytes_eq name (codes "check") then check_of words
    else if bytes_eq name (codes "solo") then solo_of words
    else if bytes_eq name (codes "replay") then replay_of words
    else if bytes_eq name (codes "show") then show_of words
    else if bytes_eq name (codes "gen") then gen_of words
    else refused 0 Unexpected

-- The command that the words are, or the first word that breaks the rule.
unfoldable pub command_of : List (List ℕ) → Result Command WordFault
command_of words = text_at words 0 >>= λ name. command_named name words

-- what a call answers is this, unless memory ran out
abbrev pub Gives : Result Command (Or WordFault) → Result Command WordFault → Type 0
Gives (Ok command) read = read ≡ Ok command
Gives (Err (ors.Fault fault)) read = read ≡ Err fault
Gives (Err ors.NoMemory) read = Unit {0}
