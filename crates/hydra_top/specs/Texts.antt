-- What the program prints for an outcome, and the status with which it ends.
use Rattle.std.specs.Prelude.{ℕ, List, [], ◌++◌, codes, decimal}
use Rattle.bpl_ast.specs.declared.word.Word.{Word}
use Rattle.bpl_ast.specs.declared.word.Word.TheVariants as words
use Rattle.bpl_flow.specs.declared.fault.FlowKind.{FlowKind}
use Rattle.bpl_flow.specs.declared.fault.FlowKind.TheVariants.{NoLabel, LabelTwice, NotForward, BreakOutside}
use Rattle.bpl_parse.specs.declared.fault.ParseKind.{ParseKind}
use Rattle.bpl_parse.specs.declared.fault.ParseKind.TheVariants.{Unexpected, EndTooSoon, TooDeep, LeftOut}
use Rattle.bpl_tok.specs.declared.token.LexKind.{LexKind}
use Rattle.bpl_tok.specs.declared.token.LexKind.TheVariants.{BadByte, OpenComment, OpenString, LiteralTooWide}
use Rattle.hydra_words.specs.declared.command.WordKind.{WordKind}
use Rattle.hydra_words.specs.declared.command.WordKind.TheVariants.{Missing, Unexpected as UnexpectedWord, NotNumber, OutOfRange, Repeated}
use Rattle.src_run.specs.declared.machine.Status.{Status}
use Rattle.src_run.specs.declared.machine.Status.TheVariants.{Going, Ended, Failed, Blocked, Cut, BadChoice}
use Rattle.trace_text.specs.Traces.{line}
use Rattle.trace_text.specs.declared.trace.TraceKind.{TraceKind}
use Rattle.trace_text.specs.declared.trace.TraceKind.TheVariants.{NoHead, BadLine, NoEnd, AfterEnd}
use Rattle.type_pass.specs.declared.fault.TypeKind.{TypeKind}
use Rattle.type_pass.specs.declared.fault.TypeKind.TheVariants as types
use Rattle.hydra_top.specs.declared.outcome.Refusal.{Refusal}
use Rattle.hydra_top.specs.declared.outcome.Refusal.TheVariants.{NotBuilt as NotBuiltPart, Words as WrongWords, TooLong, Lex, Parse, Typing, Flow, NoEntry, TraceText, NotFailed, Differs}
use Rattle.hydra_top.specs.declared.outcome.Outcome.{Outcome}
use Rattle.hydra_top.specs.declared.outcome.Outcome.TheVariants.{Safe, Bug, Done, Refused, ReadFault, WriteFault, NoMemory}

-- ---- refusals

-- what no program has
abbrev pub left_out : Word → List ℕ
left_out words.Integer = codes "integer"
left_out words.Real = codes "real"
left_out words.Arithmetic = codes "arithmetic"
left_out words.Order = codes "order"
left_out words.Polymorphism = codes "polymorphism"
left_out words.TypeConstructor = codes "type constructor"
left_out words.SeveralIndexes = codes "several indexes"
left_out words.Quantifier = codes "quantifier"
left_out words.Lambda = codes "lambda"
left_out words.Where = codes "where"
left_out words.Extends = codes "extends"
left_out words.Concurrency = codes "concurrency"
left_out words.Contract = codes "contract"
left_out words.Old = codes "old"
left_out words.WideType = codes "wide type"
left_out words.MapOfMap = codes "map of map"
left_out words.UniqueMap = codes "unique map"
left_out words.MapEquality = codes "map equality"
left_out words.Uninterpreted = codes "uninterpreted"
left_out words.NoBody = codes "no body"

abbrev pub lex_words : LexKind → List ℕ
lex_words BadByte = codes "bad byte"
lex_words OpenComment = codes "open comment"
lex_words OpenString = codes "open string"
lex_words LiteralTooWide = codes "literal too wide"

abbrev pub parse_words : ParseKind → List ℕ
parse_words Unexpected = codes "unexpected"
parse_words EndTooSoon = codes "end too soon"
parse_words TooDeep = codes "too deep"
parse_words (LeftOut what) = codes "left out " ++ left_out what

abbrev pub type_words : TypeKind → List ℕ
type_words types.Unknown = codes "unknown"
type_words types.Twice = codes "twice"
type_words types.Mismatch = codes "mismatch"
type_words types.Arity = codes "arity"
type_words types.Width = codes "width"
type_words types.Cyclic = codes "cyclic"
type_words types.NotAssignable = codes "not assignable"
type_words types.Large = codes "large"
type_words (types.LeftOut what) = codes "left out " ++ left_out what

abbrev pub flow_words : FlowKind → List ℕ
flow_words NoLabel = codes "no label"
flow_words LabelTwice = codes "label twice"
flow_words NotForward = codes "not forward"
flow_words BreakOutside = codes "break outside"

abbrev pub word_words : WordKind → List ℕ
word_words Missing = codes "missing"
word_words UnexpectedWord = codes "unexpected"
word_words NotNumber = codes "not number"
word_words OutOfRange = codes "out of range"
word_words Repeated = codes "repeated"

abbrev pub trace_words : TraceKind → List ℕ
trace_words NoHead = codes "no head"
trace_words BadLine = codes "bad line"
trace_words NoEnd = codes "no end"
trace_words AfterEnd = codes "after end"

-- where a run stands that doesn't fail
abbrev pub status_words : Status → List ℕ
status_words Going = codes "going"
status_words Ended = codes "ended"
status_words (Failed proc assert) = []
status_words Blocked = codes "blocked"
status_words Cut = codes "cut"
status_words (BadChoice index) = codes "choice"

-- a fault: the part that found it, the offset of the byte, or the number of the word or of the line, and the words of its kind
abbrev pub fault_line : List ℕ → ℕ → List ℕ → List ℕ
fault_line part at kind = line (codes "refused: " ++ part ++ codes " " ++ decimal at ++ codes " " ++ kind)

abbrev pub refusal_text : Refusal → List ℕ
refusal_text (WrongWords fault) = fault_line (codes "word") fault.index (word_words fault.kind)
refusal_text (NotBuiltPart part) = line (codes "refused: not built")
refusal_text (TooLong second) = line (codes "refused: too long")
refusal_text (Lex fault) = fault_line (codes "lex") fault.at (lex_words fault.kind)
refusal_text (Parse fault) = fault_line (codes "parse") fault.at (parse_words fault.kind)
refusal_text (Typing fault) = fault_line (codes "type") fault.at (type_words fault.kind)
refusal_text (Flow fault) = fault_line (codes "flow") fault.at (flow_words fault.kind)
refusal_text (NoEntry name) = line (codes "refused: no entry " ++ name)
refusal_text (TraceText fault) = fault_line (codes "trace line") fault.line (trace_words fault.kind)
refusal_text (NotFailed status index) = line (codes "refused: trace " ++ status_words status ++ codes " " ++ decimal index)
refusal_text (Differs number) = fault_line (codes "trace line") number (codes "differs")

-- ---- outcomes

-- what is printed where a trace was replayed: the procedure and the number of its assert that is false
abbrev pub replayed_text : (proc : List ℕ) → (assert : ℕ) → List ℕ
replayed_text proc assert = line (codes "replayed " ++ proc ++ codes " " ++ decimal assert)

abbrev pub refusal_number : Refusal → ℕ
refusal_number (WrongWords fault) = 2
refusal_number (NotBuiltPart part) = 3
refusal_number (TooLong second) = 3
refusal_number (Lex fault) = 3
refusal_number (Parse fault) = 3
refusal_number (Typing fault) = 3
refusal_number (Flow fault) = 3
refusal_number (NoEntry name) = 3
refusal_number (TraceText fault) = 3
refusal_number (NotFailed status index) = 3
refusal_number (Differs line) = 3

-- the number of an outcome, which is the status of the process
abbrev pub status_number : Outcome → ℕ
status_number Safe = 0
status_number (Bug choices proc assert) = 10
status_number Done = 0
status_number (Refused refusal) = refusal_number refusal
status_number ReadFault = 4
status_number WriteFault = 5
status_number NoMemory = 6
