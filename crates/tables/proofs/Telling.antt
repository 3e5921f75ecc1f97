-- Kinds of bytes can be told apart by a test.
use Rattle.std.proofs.Common.{◌≡◌, true, List, [], ◌∷◌, get_or, sym, refl, ap, ◌∙◌}
use Rattle.std.proofs.lemmas.Bool.{eqb-true}
use Rattle.tables.specs.declared.kinds.Kind.{Kind}
use Rattle.tables.specs.declared.kinds.Kind.TheVariants.{Digit, Letter, Blank, CarriageReturn, LineFeed, Percent, Point, Other}
use Rattle.tables.specs.Share.{code, same}

abbrev kinds : List Kind
kinds = Digit ∷ Letter ∷ Blank ∷ CarriageReturn ∷ LineFeed ∷ Percent ∷ Point ∷ Other ∷ []

back : (k : Kind) → get_or kinds (code k) Other ≡ k
back Digit = refl
back Letter = refl
back Blank = refl
back CarriageReturn = refl
back LineFeed = refl
back Percent = refl
back Point = refl
back Other = refl

pub same_is : (a b : Kind) → same a b ≡ true → a ≡ b
same_is a b t = sym (back a) ∙ ap (λ n. get_or kinds n Other) (eqb-true (code a) (code b) t) ∙ back b
