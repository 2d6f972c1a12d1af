-- Places found by name, and numbers found by key.
use Rattle.std.proofs.Common.{◌≡◌, ℕ, Bool, true, false, ◌||◌, List, [], ◌∷◌, ◌++◌, map, Option, Some, is_some, refl, sym, ap, ◌∙◌, subst}
use Rattle.std.specs.Prelude.{if◌then◌else◌}
use Rattle.std.specs.Map.{lookup}
use Rattle.std.specs.Option.{unwrap_or}
use Rattle.std.specs.Str.{bytes_eq}
use Rattle.std.specs.Global.{Vec}
use Rattle.std.proofs.lemmas.Bool.{or_parts}
use Rattle.std.proofs.lemmas.List.{map-append}
use Rattle.std.proofs.lemmas.Slice.Eq.{bytes_eq-Decides}
use Rattle.indexmap.specs.IndexMap.{insert_entry}
use Rattle.bpl_flow.specs.Flow.{number_at, place_of}
use Rattle.bpl_flow.specs.Named.{AreNamed}
use Rattle.bpl_flow.specs.Walk.{is_placed}
use Rattle.bpl_flow.specs.declared.state.Place.{Place}

bytes-same : (xs ys : List ℕ) (b : Bool) → bytes_eq xs ys ≡ b → bytes_eq ys xs ≡ b
bytes-same xs ys true e = (bytes_eq-Decides ys xs).1 (sym ((bytes_eq-Decides xs ys).0 e))
bytes-same xs ys false e = bytes-other (bytes_eq ys xs) refl
  where
    bytes-other : (b : Bool) → bytes_eq ys xs ≡ b → bytes_eq ys xs ≡ false
    bytes-other false h = h
    bytes-other true h = absurd (let f : bytes_eq xs ys ≡ true = (bytes_eq-Decides xs ys).1 (sym ((bytes_eq-Decides ys xs).0 h)) in cc)

-- the key's bytes are the place's name
name-test : (name : List ℕ) (k : Vec ℕ) (p : Place) → k.items ≡ p.name → bytes_eq name k.items ≡ bytes_eq p.name name
name-test name k p e = sym (bytes-same name p.name (bytes_eq name k.items) (ap (bytes_eq name) (sym e)))

pub lookup-place : (name : List ℕ) (entries : List (Vec ℕ × Place)) → AreNamed entries → lookup (λ k. bytes_eq name k.items) entries ≡ place_of name (map (λ e. e.1) entries)
lookup-place name [] named = refl
lookup-place name (e ∷ entries) named =
    rw (name-test name e.0 e.1 named.0) (ap (λ o. if bytes_eq e.1.name name then Some e.1 else o) (lookup-place name entries named.1))

lookup-some : (b : Bool) (p : Place) (o : Option Place) (c : Bool) → is_some o ≡ c → is_some (if b then Some p else o) ≡ (b || c)
lookup-some true p o c e = refl
lookup-some false p o c e = e

pub place-some : (name : List ℕ) (places : List Place) → is_some (place_of name places) ≡ is_placed name places
place-some name [] = refl
place-some name (p ∷ places) = lookup-some (bytes_eq p.name name) p (place_of name places) (is_placed name places) (place-some name places)

-- a place of a new name stands last
pub insert-last : (key : Vec ℕ) (p : Place) (entries : List (Vec ℕ × Place)) → key.items ≡ p.name → AreNamed entries → is_placed p.name (map (λ e. e.1) entries) ≡ false
    → insert_entry (λ x y. bytes_eq x.items y.items) entries key p ≡ entries ++ (key, p) ∷ []
insert-last key p [] same named new = refl
insert-last key p (e ∷ entries) same named new =
    let q = or_parts (bytes_eq e.1.name p.name) (is_placed p.name (map (λ x. x.1) entries)) new in
    let other : bytes_eq key.items e.0.items ≡ false = name-test key.items e.0 e.1 named.0 ∙ ap (bytes_eq e.1.name) same ∙ q.0 in
    rw other (ap (λ es. e ∷ es) (insert-last key p entries same named.1 q.1))

pub named-last : (key : Vec ℕ) (p : Place) (entries : List (Vec ℕ × Place)) → key.items ≡ p.name → AreNamed entries → AreNamed (entries ++ (key, p) ∷ [])
named-last key p [] same named = (same, tt)
named-last key p (e ∷ entries) same named = (named.0, named-last key p entries same named.1)

-- what a place of a new name leaves in the map
pub record Added (entries : List (Vec ℕ × Place)) (places : List Place) (p : Place) : Type 0 where
  pub named : AreNamed entries
  pub view : map (λ e. e.1) entries ≡ places ++ p ∷ []

pub added : (key : Vec ℕ) (p : Place) (entries more : List (Vec ℕ × Place)) (places : List Place) → key.items ≡ p.name → AreNamed entries → map (λ e. e.1) entries ≡ places → is_placed p.name places ≡ false
    → more ≡ insert_entry (λ x y. bytes_eq x.items y.items) entries key p → Added more places p
added key p entries more places same named view new e =
    let last : more ≡ entries ++ (key, p) ∷ [] = e ∙ insert-last key p entries same named (ap (is_placed p.name) view ∙ new) in
    record {
      named = subst AreNamed (sym last) (named-last key p entries same named);
      view = ap (map (λ (x : Vec ℕ × Place). x.1)) last ∙ map-append (λ (x : Vec ℕ × Place). x.1) entries ((key, p) ∷ []) ∙ ap (λ ps. ps ++ p ∷ []) view;
    }

-- what is found so far, where these exits are left of all
pub record Keyed (all left : List (ℕ × ℕ)) (find : ℕ → Option ℕ) : Type 0 where
  pub keyed : List (ℕ × ℕ)
  pub split : all ≡ left ++ keyed
  pub finds : (s : ℕ) → unwrap_or (find s) 0 ≡ number_at s keyed
