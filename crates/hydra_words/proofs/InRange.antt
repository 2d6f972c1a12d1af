-- The numbers of a command that is read are in their ranges.
use Rattle.std.proofs.Common.{ℕ, ◌≤◌, Bool, List, Result, Ok, Err, IfOk, arith}
use Rattle.hy_text.specs.declared.refusal.Or.{Or}
use Rattle.hydra_words.specs.declared.command.Command.{Command}
use Rattle.hydra_words.specs.declared.command.WordFault.{WordFault}
use Rattle.hydra_words.specs.Words.{Gives, command_of}
use Rattle.hydra_words.specs.Forms.{AreOptions, AreWordsOf, IsInRange}
use Rattle.hydra_words.specs.Forms.AreOptions.{neither, journal_alone, grain_alone, grain_first, journal_first}
use Rattle.hydra_words.specs.Forms.AreWordsOf.{check, solo, replay, show, gen}
use Rattle.hydra_words.proofs.CommandsExact.{commands_exact}

grain_range : (grain : ℕ) (journal : Bool) (words : List (List ℕ)) → AreOptions grain journal words → (1 ≤ grain) × (grain ≤ 1000000)
grain_range grain journal words neither = (omega arith, omega arith)
grain_range grain journal words journal_alone = (omega arith, omega arith)
grain_range grain journal words (grain_alone n g w) = (w.least, w.most)
grain_range grain journal words (grain_first n g w) = (w.least, w.most)
grain_range grain journal words (journal_first n g w) = (w.least, w.most)

in_range_words : (command : Command) (words : List (List ℕ)) → AreWordsOf command words → IsInRange command
in_range_words command words (check file entry b w options bound workers grain journal is_bound is_workers are_options) =
    let r = grain_range grain journal options are_options in
    (is_bound.least, is_bound.most, is_workers.least, is_workers.most, r.0, r.1)
in_range_words command words (solo file entry b options bound grain journal is_bound are_options) =
    let r = grain_range grain journal options are_options in
    (is_bound.least, is_bound.most, r.0, r.1)
in_range_words command words (replay file entry b trace bound is_bound) = (is_bound.least, is_bound.most)
in_range_words command words (show file) = tt
in_range_words command words (gen a s b seed size bound is_seed is_size is_bound) = (is_seed.most, is_size.least, is_size.most, is_bound.least, is_bound.most)

pub given_in_range : (result : Result Command (Or WordFault)) (words : List (List ℕ)) → Gives result (command_of words) → IfOk result IsInRange
given_in_range (Ok command) words h = in_range_words command words ((commands_exact words command).0 h)
given_in_range (Err fault) words h = tt
