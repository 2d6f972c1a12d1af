-- Traces that are read line by line.
use Rattle.std.proofs.Common.{◌≡◌, ℕ, ◌+◌, ◌≢◌, Bool, true, false, List, [], ◌∷◌, ◌++◌, ◌-◌, ◌<◌, length, get_or, drop, map, arith, sym, ◌∙◌, ap, subst, refl}
use Rattle.std.specs.Prelude.{◌==◌, Option, None, Some, Result, Ok, Err, if◌then◌else◌}
use Rattle.std.proofs.lemmas.Bool.{ne_eqb}
use Rattle.std.proofs.lemmas.List.{append_assoc, append-nil, map-append, drop_more, length-drop, length-map}
use Rattle.std.specs.List.{drop-map}
use Rattle.hy_text.specs.declared.refusal.Or.{Or}
use Rattle.hy_text.specs.declared.refusal.Or.TheVariants as ors
use Rattle.trace_text.specs.Reading.{Gives, behind_item, ended, fault_at, line_of, line_of_words, named_line, trace_of_lines, with_line, without_empty_end}
use Rattle.trace_text.specs.declared.reading.lines.Line.{Line}
use Rattle.trace_text.specs.declared.reading.lines.Line.TheVariants.{Item, End}
use Rattle.trace_text.specs.declared.trace.Trace.{Trace}
use Rattle.trace_text.specs.declared.trace.TraceFault.{TraceFault}
use Rattle.trace_text.specs.declared.trace.TraceItem.{TraceItem}
use Rattle.trace_text.specs.declared.trace.TraceKind.TheVariants.{BadLine, AfterEnd}

-- a trace behind items that were read before
abbrev pub behind : List TraceItem → Result Trace TraceFault → Result Trace TraceFault
behind items (Ok trace) = Ok (record { items = items ++ trace.items; proc = trace.proc; assert = trace.assert })
behind items (Err fault) = Err fault

pub behind_none : (read : Result Trace TraceFault) → behind [] read ≡ read
behind_none (Ok trace) = refl
behind_none (Err fault) = refl

behind_more : (items : List TraceItem) (item : TraceItem) (read : Result Trace TraceFault) → behind (items ++ item ∷ []) read ≡ behind items (behind_item item read)
behind_more items item (Ok trace) =
    ap (λ (is : List TraceItem). let t : Trace = record { items = is; proc = trace.proc; assert = trace.assert } in let r : Result Trace TraceFault = Ok t in r) (append_assoc items (item ∷ []) trace.items)
behind_more items item (Err fault) = refl

form_is : (items : List TraceItem) (number : ℕ) (text : List ℕ) (lines : List (List ℕ)) (form : Option Line) → line_of text ≡ form
    → behind items (trace_of_lines number (text ∷ lines)) ≡ behind items (with_line number form lines (trace_of_lines (number + 1) lines))
form_is items number text lines form e = ap (λ (f : Option Line). behind items (with_line number f lines (trace_of_lines (number + 1) lines))) e

-- the first line is an item
pub item_read : (items : List TraceItem) (item : TraceItem) (number : ℕ) (text : List ℕ) (lines : List (List ℕ)) → line_of text ≡ Some (Item item)
    → behind items (trace_of_lines number (text ∷ lines)) ≡ behind (items ++ item ∷ []) (trace_of_lines (number + 1) lines)
item_read items item number text lines e = form_is items number text lines (Some (Item item)) e ∙ sym (behind_more items item (trace_of_lines (number + 1) lines))

-- the first line has none of the forms
pub bad_read : (items : List TraceItem) (number : ℕ) (text : List ℕ) (lines : List (List ℕ)) → line_of text ≡ None
    → behind items (trace_of_lines number (text ∷ lines)) ≡ fault_at number BadLine
bad_read items number text lines e = form_is items number text lines None e

if_false : {A : Type 0} (t : Bool) (x y : A) → t ≡ false → (if t then x else y) ≡ y
if_false true x y e = cc
if_false false x y e = refl

end_by : (items : List TraceItem) (proc : List ℕ) (assert number : ℕ) (lines : List (List ℕ))
    → behind items (ended proc assert number lines) ≡ (if length lines == 0 then (let t : Trace = record { items = items; proc = proc; assert = assert } in Ok t) else fault_at number AfterEnd)
end_by items proc assert number [] =
    ap (λ (is : List TraceItem). let t : Trace = record { items = is; proc = proc; assert = assert } in let r : Result Trace TraceFault = Ok t in r) (append-nil items)
end_by items proc assert number (line ∷ lines) =
    sym (if_false (length (line ∷ lines) == 0) (let t : Trace = record { items = items; proc = proc; assert = assert } in let r : Result Trace TraceFault = Ok t in r) (fault_at number AfterEnd) (ne_eqb (length (line ∷ lines)) 0 (λ z. omega arith)))

-- the first line names the assert
pub end_read : (items : List TraceItem) (proc : List ℕ) (assert number : ℕ) (text : List ℕ) (lines : List (List ℕ)) → line_of text ≡ Some (End proc assert)
    → behind items (trace_of_lines number (text ∷ lines)) ≡ (if length lines == 0 then (let t : Trace = record { items = items; proc = proc; assert = assert } in Ok t) else fault_at (number + 1) AfterEnd)
end_read items proc assert number text lines e = form_is items number text lines (Some (End proc assert)) e ∙ end_by items proc assert (number + 1) lines

-- ---- the last part

into_if : (t : Bool) (x : List ℕ) (xs ys : List (List ℕ)) → x ∷ (if t then xs else ys) ≡ (if t then x ∷ xs else x ∷ ys)
into_if true x xs ys = refl
into_if false x xs ys = refl

pub end_push : (xs : List (List ℕ)) (last : List ℕ) → without_empty_end (xs ++ last ∷ []) ≡ (if length last == 0 then xs else xs ++ last ∷ [])
end_push [] last = refl
end_push (x ∷ []) last = into_if (length last == 0) x [] (last ∷ [])
end_push (x ∷ y ∷ zs) last = ap (λ ls. x ∷ ls) (end_push (y ∷ zs) last) ∙ into_if (length last == 0) x (y ∷ zs) (y ∷ zs ++ last ∷ [])

-- the parts that references show
pub end_shown : {A : Type 0} (show : A → List ℕ) (xs rest : List A) (last : A) → xs ≡ rest ++ last ∷ []
    → without_empty_end (map show xs) ≡ (if length (show last) == 0 then map show rest else map show xs)
end_shown show xs rest last e =
    let shown : map show xs ≡ map show rest ++ show last ∷ [] = ap (map show) e ∙ map-append show rest (last ∷ []) in
    ap without_empty_end shown ∙ end_push (map show rest) (show last) ∙ ap (λ ys. if length (show last) == 0 then map show rest else ys) (sym shown)

map_if : {A : Type 0} (show : A → List ℕ) (t : Bool) (xs ys : List A) → map show (if t then xs else ys) ≡ (if t then map show xs else map show ys)
map_if show true xs ys = refl
map_if show false xs ys = refl

pub end_cut : {A : Type 0} (show : A → List ℕ) (xs rest ys : List A) (last : A) → xs ≡ rest ++ last ∷ [] → ys ≡ (if length (show last) == 0 then rest else xs)
    → map show ys ≡ without_empty_end (map show xs)
end_cut show xs rest ys last e f =
    ap (map show) f ∙ map_if show (length (show last) == 0) rest xs ∙ sym (end_shown show xs rest last e)

pub none_cut : {A : Type 0} (show : A → List ℕ) (xs : List A) → length xs ≡ 0 → map show xs ≡ without_empty_end (map show xs)
none_cut show [] e = refl
none_cut show (x ∷ xs) e = absurd (omega arith)

-- ---- words

pub other_words : {A : Type 0} (show : A → List ℕ) (ws : List A) → length ws ≢ 2 → length ws ≢ 3 → None ≡ line_of_words (map show ws)
other_words show [] n m = refl
other_words show (x ∷ []) n m = refl
other_words show (x ∷ y ∷ []) n m = absurd (n (omega arith))
other_words show (x ∷ y ∷ z ∷ []) n m = absurd (m (omega arith))
other_words show (x ∷ y ∷ z ∷ w ∷ ws) n m = refl

-- a line of the name that is there
pub named_by : (t : Bool) (mark name found text : List ℕ) → Some found ≡ (if t then Some name else None) → named_line mark found text ≡ (if t then named_line mark name text else None)
named_by true mark name found text e = let same : found ≡ name = cc in ap (λ (n : List ℕ). named_line mark n text) same
named_by false mark name found text e = cc

-- ---- the line at an index

-- what is left of a list that is shown
pub shown_drop : {A : Type 0} (show : A → List ℕ) (xs : List A) (i : ℕ) (d : A) → i < length xs → drop i (map show xs) ≡ show (get_or xs i d) ∷ drop (i + 1) (map show xs)
shown_drop show xs i d l =
    drop-map show i xs ∙ ap (map show) (drop_more xs i d l) ∙ ap (λ ys. show (get_or xs i d) ∷ ys) (sym (drop-map show (i + 1) xs))

from_here : {A : Type 0} (show : A → List ℕ) (xs : List A) (i : ℕ) (d : A) (items : List TraceItem) (whole : Result Trace TraceFault) → i < length xs
    → behind items (trace_of_lines (i + 2) (drop i (map show xs))) ≡ whole
    → behind items (trace_of_lines (i + 2) (show (get_or xs i d) ∷ drop (i + 1) (map show xs))) ≡ whole
from_here show xs i d items whole l h = ap (λ ls. behind items (trace_of_lines (i + 2) ls)) (sym (shown_drop show xs i d l)) ∙ h

pub bad_here : {A : Type 0} (show : A → List ℕ) (xs : List A) (i : ℕ) (d : A) (items : List TraceItem) (form : Option Line) (whole : Result Trace TraceFault) → i < length xs
    → form ≡ line_of (show (get_or xs i d)) → form ≡ None → behind items (trace_of_lines (i + 2) (drop i (map show xs))) ≡ whole → whole ≡ fault_at (i + 2) BadLine
bad_here show xs i d items form whole l e n h =
    sym (from_here show xs i d items whole l h) ∙ bad_read items (i + 2) (show (get_or xs i d)) (drop (i + 1) (map show xs)) (sym e ∙ n)

left : {A : Type 0} (show : A → List ℕ) (xs : List A) (i : ℕ) → length (drop (i + 1) (map show xs)) ≡ length xs - i - 1
left show xs i = omega (arith, length-drop (i + 1) (map show xs), length-map xs show)

pub end_here : {A : Type 0} (show : A → List ℕ) (xs : List A) (i : ℕ) (d : A) (items : List TraceItem) (form : Option Line) (proc : List ℕ) (assert : ℕ) (whole : Result Trace TraceFault) → i < length xs
    → form ≡ line_of (show (get_or xs i d)) → form ≡ Some (End proc assert) → behind items (trace_of_lines (i + 2) (drop i (map show xs))) ≡ whole
    → whole ≡ (if length xs - i - 1 == 0 then (let t : Trace = record { items = items; proc = proc; assert = assert } in Ok t) else fault_at (i + 2 + 1) AfterEnd)
end_here show xs i d items form proc assert whole l e n h =
    sym (from_here show xs i d items whole l h)
    ∙ end_read items proc assert (i + 2) (show (get_or xs i d)) (drop (i + 1) (map show xs)) (sym e ∙ n)
    ∙ ap (λ (k : ℕ). if k == 0 then (let t : Trace = record { items = items; proc = proc; assert = assert } in let r : Result Trace TraceFault = Ok t in r) else fault_at (i + 2 + 1) AfterEnd) (left show xs i)

pub item_here : {A : Type 0} (show : A → List ℕ) (xs : List A) (i : ℕ) (d : A) (items new : List TraceItem) (form : Option Line) (item : TraceItem) (whole : Result Trace TraceFault) → i < length xs
    → form ≡ line_of (show (get_or xs i d)) → form ≡ Some (Item item) → new ≡ items ++ item ∷ [] → behind items (trace_of_lines (i + 2) (drop i (map show xs))) ≡ whole
    → behind new (trace_of_lines (i + 1 + 2) (drop (i + 1) (map show xs))) ≡ whole
item_here show xs i d items new form item whole l e n f h =
    let number : i + 1 + 2 ≡ i + 2 + 1 = omega arith in
    ap (λ (is : List TraceItem). behind is (trace_of_lines (i + 1 + 2) (drop (i + 1) (map show xs)))) f
    ∙ ap (λ (k : ℕ). behind (items ++ item ∷ []) (trace_of_lines k (drop (i + 1) (map show xs)))) number
    ∙ sym (item_read items item (i + 2) (show (get_or xs i d)) (drop (i + 1) (map show xs)) (sym e ∙ n))
    ∙ from_here show xs i d items whole l h

-- ---- answers

pub gives_fault : (answer : Or TraceFault) (fault : TraceFault) (read : Result Trace TraceFault) → answer ≡ ors.Fault fault → read ≡ Err fault → Gives (Err answer) read
gives_fault answer fault read e r = subst (λ (a : Or TraceFault). Gives (Err a) read) (sym e) r

pub gives_same : (answer : Result Trace (Or TraceFault)) (one other : Result Trace TraceFault) → other ≡ one → Gives answer one → Gives answer other
gives_same answer one other e g = subst (λ (r : Result Trace TraceFault). Gives answer r) (sym e) g
