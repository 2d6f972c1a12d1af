-- The texts of lists of shown tokens.
use Rattle.std.proofs.Common.{◌≡◌, ℕ, List, [], ◌∷◌, ◌++◌, refl, ap, ◌∙◌, append_assoc}
use Rattle.std.specs.List.{flat_map, join_by}
use Rattle.std.proofs.lemmas.List.{map-append}
use Rattle.bpl_show.specs.Tokens as shown
use Rattle.bpl_round.proofs.Joined.{texts}

pub texts_append : (a b : List shown.Token) → texts (a ++ b) ≡ texts a ++ texts b
texts_append a b = map-append (λ (t : shown.Token). t.text) a b

pub texts_flat : {X : Type 0} (f : X → List shown.Token) (xs : List X) → texts (flat_map f xs) ≡ flat_map (λ x. texts (f x)) xs
texts_flat f [] = refl
texts_flat f (x ∷ xs) = texts_append (f x) (flat_map f xs) ∙ ap (λ ws. texts (f x) ++ ws) (texts_flat f xs)

pub texts_join : {X : Type 0} (f : X → List shown.Token) (w : List ℕ) (xs : List X) → texts (join_by f (shown.word w) xs) ≡ join_by (λ x. texts (f x)) (w ∷ []) xs
texts_join f w [] = refl
texts_join f w (x ∷ xs) = texts_append (f x) (flat_map (λ y. shown.word w ++ f y) xs) ∙ ap (λ ws. texts (f x) ++ ws) (texts_flat (λ y. shown.word w ++ f y) xs)

-- lists that are put together from the left
pub texts_3 : (a b c : List shown.Token) → texts (a ++ b ++ c) ≡ texts a ++ (texts b ++ texts c)
texts_3 a b c = texts_append (a ++ b) c ∙ ap (λ ws. ws ++ (texts c)) (texts_append a b) ∙ append_assoc (texts a) (texts b) (texts c)

pub texts_4 : (a b c d : List shown.Token) → texts (a ++ b ++ c ++ d) ≡ texts a ++ (texts b ++ (texts c ++ texts d))
texts_4 a b c d = texts_3 (a ++ b) c d ∙ ap (λ ws. ws ++ (texts c ++ texts d)) (texts_append a b) ∙ append_assoc (texts a) (texts b) (texts c ++ texts d)

pub texts_5 : (a b c d e : List shown.Token) → texts (a ++ b ++ c ++ d ++ e) ≡ texts a ++ (texts b ++ (texts c ++ (texts d ++ texts e)))
texts_5 a b c d e = texts_4 (a ++ b) c d e ∙ ap (λ ws. ws ++ (texts c ++ (texts d ++ texts e))) (texts_append a b) ∙ append_assoc (texts a) (texts b) (texts c ++ (texts d ++ texts e))

pub texts_6 : (a b c d e f : List shown.Token) → texts (a ++ b ++ c ++ d ++ e ++ f) ≡ texts a ++ (texts b ++ (texts c ++ (texts d ++ (texts e ++ texts f))))
texts_6 a b c d e f = texts_5 (a ++ b) c d e f ∙ ap (λ ws. ws ++ (texts c ++ (texts d ++ (texts e ++ texts f)))) (texts_append a b) ∙ append_assoc (texts a) (texts b) (texts c ++ (texts d ++ (texts e ++ texts f)))

pub texts_7 : (a b c d e f g : List shown.Token) → texts (a ++ b ++ c ++ d ++ e ++ f ++ g) ≡ texts a ++ (texts b ++ (texts c ++ (texts d ++ (texts e ++ (texts f ++ texts g)))))
texts_7 a b c d e f g = texts_6 (a ++ b) c d e f g ∙ ap (λ ws. ws ++ (texts c ++ (texts d ++ (texts e ++ (texts f ++ texts g))))) (texts_append a b) ∙ append_assoc (texts a) (texts b) (texts c ++ (texts d ++ (texts e ++ (texts f ++ texts g))))

pub texts_8 : (a b c d e f g h : List shown.Token) → texts (a ++ b ++ c ++ d ++ e ++ f ++ g ++ h) ≡ texts a ++ (texts b ++ (texts c ++ (texts d ++ (texts e ++ (texts f ++ (texts g ++ texts h))))))
texts_8 a b c d e f g h = texts_7 (a ++ b) c d e f g h ∙ ap (λ ws. ws ++ (texts c ++ (texts d ++ (texts e ++ (texts f ++ (texts g ++ texts h)))))) (texts_append a b) ∙ append_assoc (texts a) (texts b) (texts c ++ (texts d ++ (texts e ++ (texts f ++ (texts g ++ texts h)))))

pub texts_9 : (a b c d e f g h i : List shown.Token) → texts (a ++ b ++ c ++ d ++ e ++ f ++ g ++ h ++ i) ≡ texts a ++ (texts b ++ (texts c ++ (texts d ++ (texts e ++ (texts f ++ (texts g ++ (texts h ++ texts i)))))))
texts_9 a b c d e f g h i = texts_8 (a ++ b) c d e f g h i ∙ ap (λ ws. ws ++ (texts c ++ (texts d ++ (texts e ++ (texts f ++ (texts g ++ (texts h ++ texts i))))))) (texts_append a b) ∙ append_assoc (texts a) (texts b) (texts c ++ (texts d ++ (texts e ++ (texts f ++ (texts g ++ (texts h ++ texts i))))))
