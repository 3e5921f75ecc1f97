-- Munch that is written into a list, token by token.
use Rattle.std.proofs.Common.{◌≡◌, ℕ, ◌+◌, ◌<◌, List, [], ◌∷◌, ◌++◌, map, length, take, drop, set, sym, ap, ◌∙◌, subst, append_assoc, arith}
use Rattle.std.proofs.lemmas.List.{append-nil, drop-drop, drop-set-lt, map_push, take_more_set}
use Rattle.tables.specs.Table.{Table}
use Rattle.munch.specs.declared.plain.Lexeme.{Lexeme}
use Rattle.munch.specs.Munch.{End, Ends, First, Munch, Token}
use Rattle.munch.specs.Plain.{token_of}

module _ (t : Table) (w : List ℕ) where
  -- The first tokens of munch of w are written, up to a place: munch of what is left completes them.
  abbrev pub Written : List Lexeme → ℕ → ℕ → Type 0
  Written list count place =
      (ys : List Token) (end : End) → Munch t place (drop place w) ys end → Munch t 0 w (map token_of (take count list) ++ ys) end

  pub written_more : (list : List Lexeme) (count place : ℕ) (x : Lexeme) → count < length list → First t place (drop place w) (token_of x) → Written list count place → Written (set list count x) (count + 1) (place + x.length)
  written_more list count place x inside first written ys end munch =
      subst (λ (zs : List Token). Munch t 0 w zs end)
      (sym
      (ap (λ zs. map token_of zs ++ ys) (take_more_set list count x inside)
      ∙ ap (λ zs. zs ++ ys) (map_push token_of (take count list) x)
      ∙ append_assoc (map token_of (take count list)) (token_of x ∷ []) ys))
      (written (token_of x ∷ ys) end
      (first, subst (λ v. Munch t (place + x.length) v ys end) (sym (drop-drop x.length place w)) munch))

  pub written_all : (list : List Lexeme) (count place : ℕ) (end : End) → Ends t place (drop place w) end → Written list count place → Munch t 0 w (map token_of (take count list)) end
  written_all list count place end ends written =
      subst (λ (zs : List Token). Munch t 0 w zs end) (append-nil (map token_of (take count list))) (written [] end ends)

-- what stands behind one more entry
pub rest_more : {X : Type 0} (xs ys : List X) (n : ℕ) (x : X) → drop n xs ≡ drop n ys → drop (n + 1) (set xs n x) ≡ drop (n + 1) ys
rest_more xs ys n x same =
    drop-set-lt (n + 1) xs n x (omega arith) ∙ sym (drop-drop 1 n xs) ∙ ap (drop 1) same ∙ drop-drop 1 n ys
