-- Traces that are written are read back.
use Rattle.std.proofs.Common.{◌≡◌, ℕ, ◌+◌, ◌-◌, ◌<◌, ◌^◌, true, false, ◌&&◌, List, [], ◌∷◌, ◌++◌, length, map, All, arith, refl, sym, ◌∙◌, ap, append_assoc}
use Rattle.std.specs.Prelude.{nat_lt, decimal, None, Some, option_map, Ok, slice_index, codes}
use Rattle.std.specs.Char.{is_ascii_digit}
use Rattle.std.specs.List.{list_all, flat_map}
use Rattle.std.specs.Option.{option_map_or}
use Rattle.std.proofs.lemmas.Bool.{and_parts}
use Rattle.std.proofs.lemmas.List.Elements.{All-head, All-tail}
use Rattle.bpl_tok.specs.Bytes.{begins_ident, in_ident}
use Rattle.src_run.specs.Names.{Name}
use Rattle.src_run.specs.declared.machine.Choice.{Choice}
use Rattle.src_run.specs.declared.machine.Choice.TheVariants.{Go, Val}
use Rattle.trace_text.specs.Reading.{without_empty_end, lines_of, number_of, line_of_words, line_of, behind_item, with_line, trace_of_lines, headed}
use Rattle.trace_text.specs.ReadingBack.{CanBeRead, TracesAreReadBack}
use Rattle.trace_text.specs.Traces.{choice_line, item_line, end_line, text_of_trace}
use Rattle.trace_text.specs.Values.{value_text}
use Rattle.trace_text.specs.Words.{parts, is_identifier}
use Rattle.trace_text.specs.declared.reading.lines.Line.TheVariants.{Item, End}
use Rattle.trace_text.specs.declared.trace.TraceItem.{TraceItem}
use Rattle.trace_text.proofs.BackValues.{is_in_value, value_read, value_bytes}
use Rattle.trace_text.proofs.Bytes.{Free, free, free-both, cons_free, none_free, one_part, first_part, decimal_all, number_read}
use Rattle.trace_text.proofs.Lines.{end_push}

-- ---- a line without its line feed

abbrev bytes_of : Name → List ℕ
bytes_of name = option_map_or (λ (n : List ℕ). n) name []

abbrev content : Name → Choice → List ℕ
content name (Val value) = 118 ∷ 32 ∷ (bytes_of name ++ 32 ∷ value_text value)
content name (Go place) = 103 ∷ 32 ∷ decimal place

abbrev end_content : List ℕ → ℕ → List ℕ
end_content proc assert = codes "fails" ++ 32 ∷ (proc ++ 32 ∷ decimal assert)

value_line_is : (n t rest : List ℕ) → (((((118 ∷ 32 ∷ []) ++ n) ++ 32 ∷ []) ++ t) ++ 10 ∷ []) ++ rest ≡ (118 ∷ 32 ∷ (n ++ 32 ∷ t)) ++ 10 ∷ rest
value_line_is n t rest = simp append_assoc

place_line_is : (t rest : List ℕ) → (((103 ∷ 32 ∷ []) ++ t) ++ 10 ∷ []) ++ rest ≡ (103 ∷ 32 ∷ t) ++ 10 ∷ rest
place_line_is t rest = simp append_assoc

choice_line_is : (name : Name) (choice : Choice) (rest : List ℕ) → choice_line (bytes_of name) choice ++ rest ≡ content name choice ++ 10 ∷ rest
choice_line_is name (Val value) rest = value_line_is (bytes_of name) (value_text value) rest
choice_line_is name (Go place) rest = place_line_is (decimal place) rest

end_is : (n t : List ℕ) → ((((codes "fails ") ++ n) ++ 32 ∷ []) ++ t) ++ 10 ∷ [] ≡ (codes "fails" ++ 32 ∷ (n ++ 32 ∷ t)) ++ 10 ∷ []
end_is n t = simp append_assoc

-- ---- what a line is made of

identifier_all : (name : List ℕ) → is_identifier name ≡ true → list_all in_ident name ≡ true
identifier_all name h = (and_parts (nat_lt 0 (length name) && begins_ident (slice_index name 0)) (list_all in_ident name) h).1

-- a byte that ends neither words nor lines
abbrev Apart : ℕ → Type 0
Apart byte = (in_ident byte ≡ false) × (is_in_value byte ≡ false) × (is_ascii_digit byte ≡ false)

identifier_free : (byte : ℕ) → Apart byte → (name : List ℕ) → is_identifier name ≡ true → Free byte name
identifier_free byte a name h = free in_ident byte a.0 name (identifier_all name h)

number_free : (byte : ℕ) → Apart byte → (n : ℕ) → n < 2 ^ 32 → Free byte (decimal n)
number_free byte a n h = free is_ascii_digit byte a.2 (decimal n) (decimal_all n (omega arith))

space : Apart 32
space = (refl, refl, refl)

feed : Apart 10
feed = (refl, refl, refl)

content_free : (name : Name) (choice : Choice) → CanBeRead name choice → Free 10 (content name choice)
content_free None (Go place) h = cons_free 10 103 (32 ∷ decimal place) refl (cons_free 10 32 (decimal place) refl (number_free 10 feed place h))
content_free (Some name) (Go place) h = absurd h
content_free None (Val value) h = absurd h
content_free (Some name) (Val value) (is, sort, s, v) =
    cons_free 10 118 (32 ∷ (name ++ 32 ∷ value_text value)) refl (cons_free 10 32 (name ++ 32 ∷ value_text value) refl
    (free-both 10 name (32 ∷ value_text value) (identifier_free 10 feed name is) (cons_free 10 32 (value_text value) refl (free is_in_value 10 refl (value_text value) (value_bytes value sort s v)))))

end_free : (proc : List ℕ) (assert : ℕ) → is_identifier proc ≡ true → assert < 2 ^ 32 → Free 10 (end_content proc assert)
end_free proc assert is h =
    free-both 10 (codes "fails") (32 ∷ (proc ++ 32 ∷ decimal assert)) (free in_ident 10 refl (codes "fails") refl) (cons_free 10 32 (proc ++ 32 ∷ decimal assert) refl
    (free-both 10 proc (32 ∷ decimal assert) (identifier_free 10 feed proc is) (cons_free 10 32 (decimal assert) refl (number_free 10 feed assert h))))

-- ---- a line that is read

content_read : (name : Name) (choice : Choice) → CanBeRead name choice → line_of (content name choice) ≡ Some (Item (record { name = name; choice = choice }))
content_read None (Go place) h =
    let cut : parts 32 (103 ∷ 32 ∷ decimal place) ≡ (103 ∷ []) ∷ decimal place ∷ [] =
    first_part 32 (103 ∷ []) (decimal place) (cons_free 32 103 [] refl (none_free 32)) ∙ ap (λ ps. (103 ∷ []) ∷ ps) (one_part 32 (decimal place) (number_free 32 space place h)) in
    let number : number_of (decimal place) ≡ Some place = number_read (2 ^ 32 - 1) place (omega arith) (omega arith) in
    ap line_of_words cut ∙ ap (option_map (λ n. Item (record { name = None; choice = Go n }))) number
content_read (Some name) (Go place) h = absurd h
content_read None (Val value) h = absurd h
content_read (Some name) (Val value) (is, sort, s, v) =
    let text = value_text value in
    let cut : parts 32 (118 ∷ 32 ∷ (name ++ 32 ∷ text)) ≡ (118 ∷ []) ∷ name ∷ text ∷ [] =
    first_part 32 (118 ∷ []) (name ++ 32 ∷ text) (cons_free 32 118 [] refl (none_free 32))
    ∙ ap (λ ps. (118 ∷ []) ∷ ps) (first_part 32 name text (identifier_free 32 space name is) ∙ ap (λ ps. name ∷ ps) (one_part 32 text (free is_in_value 32 refl text (value_bytes value sort s v)))) in
    ap line_of_words cut ∙ rw (is, value_read value sort s v) refl

end_read : (proc : List ℕ) (assert : ℕ) → is_identifier proc ≡ true → assert < 2 ^ 32 → line_of (end_content proc assert) ≡ Some (End proc assert)
end_read proc assert is h =
    let cut : parts 32 (end_content proc assert) ≡ codes "fails" ∷ proc ∷ decimal assert ∷ [] =
    first_part 32 (codes "fails") (proc ++ 32 ∷ decimal assert) (free in_ident 32 refl (codes "fails") refl)
    ∙ ap (λ ps. codes "fails" ∷ ps) (first_part 32 proc (decimal assert) (identifier_free 32 space proc is) ∙ ap (λ ps. proc ∷ ps) (one_part 32 (decimal assert) (number_free 32 space assert h))) in
    let number : number_of (decimal assert) ≡ Some assert = number_read (2 ^ 32 - 1) assert (omega arith) (omega arith) in
    ap line_of_words cut ∙ rw (is, number) refl

-- ---- a whole text

abbrev contents : List TraceItem → List (List ℕ)
contents items = map (λ (item : TraceItem). content item.name item.choice) items

abbrev AreReadable : List TraceItem → Type 0
AreReadable items = All (λ (item : TraceItem). CanBeRead item.name item.choice) items

module _ (proc : List ℕ) (assert : ℕ) (is : is_identifier proc ≡ true) (h : assert < 2 ^ 32) where
  body_cut : (items : List TraceItem) → AreReadable items → parts 10 (flat_map item_line items ++ end_line proc assert) ≡ contents items ++ end_content proc assert ∷ [] ∷ []
  body_cut [] readable = ap (parts 10) (end_is proc (decimal assert)) ∙ first_part 10 (end_content proc assert) [] (end_free proc assert is h)
  body_cut (item ∷ items) readable =
      let rest = flat_map item_line items ++ end_line proc assert in
      let one : parts 10 (content item.name item.choice ++ 10 ∷ rest) ≡ content item.name item.choice ∷ parts 10 rest = first_part 10 (content item.name item.choice) rest (content_free item.name item.choice (All-head (λ (item : TraceItem). CanBeRead item.name item.choice) item items readable)) in
      ap (parts 10) (append_assoc (item_line item) (flat_map item_line items) (end_line proc assert) ∙ choice_line_is item.name item.choice rest) ∙ one
      ∙ ap (λ ps. content item.name item.choice ∷ ps) (body_cut items (All-tail (λ (item : TraceItem). CanBeRead item.name item.choice) item items readable))

  lines_read : (number : ℕ) (items : List TraceItem) → AreReadable items → trace_of_lines number (contents items ++ end_content proc assert ∷ []) ≡ Ok (record { items = items; proc = proc; assert = assert })
  lines_read number [] readable = ap (λ form. with_line number form [] (trace_of_lines (number + 1) [])) (end_read proc assert is h)
  lines_read number (item ∷ items) readable =
      let lines = contents items ++ end_content proc assert ∷ [] in
      ap (λ form. with_line number form lines (trace_of_lines (number + 1) lines)) (content_read item.name item.choice (All-head (λ (item : TraceItem). CanBeRead item.name item.choice) item items readable))
      ∙ ap (behind_item item) (lines_read (number + 1) items (All-tail (λ (item : TraceItem). CanBeRead item.name item.choice) item items readable))

  text_lines : (items : List TraceItem) → AreReadable items → lines_of (text_of_trace (record { items = items; proc = proc; assert = assert })) ≡ codes "Bug" ∷ (contents items ++ end_content proc assert ∷ [])
  text_lines items readable =
      let body = flat_map item_line items ++ end_line proc assert in
      let cut : parts 10 (codes "Bug" ++ 10 ∷ body) ≡ (codes "Bug" ∷ (contents items ++ end_content proc assert ∷ [])) ++ [] ∷ [] =
      first_part 10 (codes "Bug") body (free in_ident 10 refl (codes "Bug") refl)
      ∙ ap (λ ps. codes "Bug" ∷ ps) (body_cut items readable ∙ sym (append_assoc (contents items) (end_content proc assert ∷ []) ([] ∷ []))) in
      ap without_empty_end cut ∙ end_push (codes "Bug" ∷ (contents items ++ end_content proc assert ∷ [])) []

pub traces_are_read_back : TracesAreReadBack
traces_are_read_back trace h =
    ap headed (text_lines trace.proc trace.assert h.proc h.assert trace.items h.items) ∙ lines_read trace.proc trace.assert h.proc h.assert 2 trace.items h.items
