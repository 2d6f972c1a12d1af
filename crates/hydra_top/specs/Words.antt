-- What the words ask for: a task, or why they are refused.
use Rattle.std.specs.Prelude.{ℕ, ◌==◌, List, length, Result, Ok, Err, if◌then◌else◌}
use Rattle.hydra_words.specs.Words.{command_of}
use Rattle.hydra_words.specs.declared.command.Command.{Command}
use Rattle.hydra_words.specs.declared.command.Command.TheVariants.{Check, Solo, Replay, Show, Gen}
use Rattle.hydra_words.specs.declared.command.WordFault.{WordFault}
use Rattle.hydra_top.specs.declared.outcome.NotBuilt.TheVariants.{Words as NotBuiltWords}
use Rattle.hydra_top.specs.declared.outcome.Refusal.{Refusal}
use Rattle.hydra_top.specs.declared.outcome.Refusal.TheVariants.{NotBuilt, Words}

-- What is to be done with a file: the runs of a procedure of its program, by its name, are searched within a bound; a trace that stands in another
-- file is replayed on them; or its tree is shown.
pub data Job : Type 0 where
  solo : (entry : List ℕ) (bound : ℕ) → Job
  replay : (entry : List ℕ) (bound : ℕ) (trace : List ℕ) → Job
  show : Job

-- what is asked: a job on the program of a file
pub record Task : Type 0 where
  pub file : List ℕ
  pub job : Job

abbrev pub not_built : Result Task Refusal
not_built = Err (NotBuilt NotBuiltWords)

-- `solo` is built without options: there are no words but itself, the file, the entry and the bound
abbrev pub solo_task : (count : ℕ) → (file entry : List ℕ) (bound : ℕ) → Result Task Refusal
solo_task count file entry bound = if count == 4 then Ok (record { file = file; job = solo entry bound }) else not_built

-- what a command asks that has so many words
abbrev pub task_in : (count : ℕ) → Command → Result Task Refusal
task_in count (Check file entry bound workers grain journal) = not_built
task_in count (Solo file entry bound grain journal) = solo_task count file entry bound
task_in count (Replay file entry bound trace) = Ok (record { file = file; job = replay entry bound trace })
task_in count (Show file) = Ok (record { file = file; job = show })
task_in count (Gen seed size bound) = not_built

-- words that are no command are refused for their first fault
abbrev pub task_read : (count : ℕ) → Result Command WordFault → Result Task Refusal
task_read count (Ok command) = task_in count command
task_read count (Err fault) = Err (Words fault)

-- what the words ask for
abbrev pub task_of : List (List ℕ) → Result Task Refusal
task_of words = task_read (length words) (command_of words)
