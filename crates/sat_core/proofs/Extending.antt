-- Lines that are added, one after another.
use Rattle.std.proofs.Common.{◌≡◌, ℕ, Bool, true, false, ◌&&◌, List, [], ◌∷◌, ◌++◌, refl, ap, sym, ◌∙◌, subst, append_assoc, append-nil}
use Rattle.std.proofs.lemmas.List.{map-append}
use Rattle.cnf_form.specs.Lines.{follows, accepts, clause_of, clauses_of}
use Rattle.cnf_form.specs.New.{IsNew, AreNew}
use Rattle.cnf_form.specs.declared.log.Line.{Line}
use Rattle.sat_core.specs.Answer.{AreAdded, IsExtended}
use Rattle.sat_core.specs.Searching.{HasLearnt}

and-assoc : (a b c : Bool) → ((a && b) && c) ≡ (a && (b && c))
and-assoc true b c = refl
and-assoc false b c = refl

accepts-append : (cs : List (List ℕ)) (xs ys : List Line) → accepts cs (xs ++ ys) ≡ (accepts cs xs && accepts (cs ++ clauses_of xs) ys)
accepts-append cs [] ys = ap (λ (ds : List (List ℕ)). accepts ds ys) (sym (append-nil cs))
accepts-append cs (x ∷ xs) ys =
    ap (λ b. follows cs x && b) (accepts-append (cs ++ x.clause ∷ []) xs ys)
    ∙ sym (and-assoc (follows cs x) (accepts (cs ++ x.clause ∷ []) xs) (accepts ((cs ++ x.clause ∷ []) ++ clauses_of xs) ys))
    ∙ ap (λ (ds : List (List ℕ)). (follows cs x && accepts (cs ++ x.clause ∷ []) xs) && accepts ds ys) (append_assoc cs (x.clause ∷ []) (clauses_of xs))

new-append : (cs : List (List ℕ)) (xs ys : List Line) → AreNew cs xs → AreNew (cs ++ clauses_of xs) ys → AreNew cs (xs ++ ys)
new-append cs [] ys a b = subst (λ (ds : List (List ℕ)). AreNew ds ys) (append-nil cs) b
new-append cs (x ∷ xs) ys a b = (a.0, new-append (cs ++ x.clause ∷ []) xs ys a.1 (subst (λ (ds : List (List ℕ)). AreNew ds ys) (sym (append_assoc cs (x.clause ∷ []) (clauses_of xs))) b))

pub added_none : (cs : List (List ℕ)) → AreAdded cs [] cs
added_none cs = record {
  clauses = sym (append-nil cs);
  accepted = refl;
  new = tt;
}

pub added_one : (cs : List (List ℕ)) (line : Line) → follows cs line ≡ true → IsNew cs line.clause → AreAdded cs (line ∷ []) (cs ++ line.clause ∷ [])
added_one cs line f n = record {
  clauses = refl;
  accepted = rw f refl;
  new = (n, tt);
}

pub added_more : (a b c : List (List ℕ)) (xs ys : List Line) → AreAdded a xs b → AreAdded b ys c → AreAdded a (xs ++ ys) c
added_more a b c xs ys k l = record {
  clauses = l.clauses ∙ ap (λ (ds : List (List ℕ)). ds ++ clauses_of ys) k.clauses ∙ append_assoc a (clauses_of xs) (clauses_of ys) ∙ ap (λ (ds : List (List ℕ)). a ++ ds) (sym (map-append clause_of xs ys));
  accepted = accepts-append a xs ys ∙ rw (k.accepted) (ap (λ (ds : List (List ℕ)). accepts ds ys) (sym k.clauses) ∙ l.accepted);
  new = new-append a xs ys k.new (subst (λ (ds : List (List ℕ)). AreNew ds ys) k.clauses l.new);
}

pub learnt_none : (cs : List (List ℕ)) (lines : List Line) → HasLearnt cs lines cs lines
learnt_none cs lines = record { more = []; log = sym (append-nil lines); added = added_none cs }

pub learnt_more : (a b c : List (List ℕ)) (xs ys zs : List Line) → HasLearnt a xs b ys → HasLearnt b ys c zs → HasLearnt a xs c zs
learnt_more a b c xs ys zs k l = record {
  more = k.more ++ l.more;
  log = l.log ∙ ap (λ (ds : List Line). ds ++ l.more) k.log ∙ append_assoc xs k.more l.more;
  added = added_more a b c k.more l.more k.added l.added;
}

pub extended_none : (cs : List (List ℕ)) → IsExtended cs cs
extended_none cs = ([], added_none cs)

pub extended_more : (a b c : List (List ℕ)) → IsExtended a b → IsExtended b c → IsExtended a c
extended_more a b c k l = (k.0 ++ l.0, added_more a b c k.0 l.0 k.1 l.1)
