-- Logs in which each line is needed.
use Rattle.std.specs.Prelude.{ℕ, ◌+◌, Bool, false, not, ◌&&◌, if◌then◌else◌, List, [], ◌∷◌}
use Rattle.std.specs.List.{list_any}
use Rattle.cnf_form.specs.Literal.{is_among}
use Rattle.cnf_form.specs.Lines.{is_empty_list, is_empty_line}
use Rattle.cnf_form.specs.declared.log.Line.{Line}

-- a line has a hint that names this clause
abbrev pub is_hinted : ℕ → List Line → Bool
is_hinted id lines = list_any (λ line. is_among line.hints id) lines

-- the last line is empty, and each other one isn't and is named by a hint of a later line; the first line has this number
abbrev pub is_trimmed : ℕ → List Line → Bool
is_trimmed id [] = false
is_trimmed id (line ∷ lines) = if is_empty_list lines then is_empty_line line else (not (is_empty_line line) && is_hinted id lines && is_trimmed (id + 1) lines)
