-- What is shown of a promise as Rattle reads it from the source: that it allows one outcome alone, and that its call asks nothing.
use mathlib.Core.Path.{◌≡◌}

-- any two outcomes that the promise allows, at any lifetimes κs and arguments a, are equal in all that a caller sees of them: of the result
-- r, and at exit s of each buffer that was lent
abbrev pub Tight : {K : Type 0} {A R S : K → Type 0} {Seen : Type 0} → ((κs : K) → A κs → R κs → S κs → Type 0) → ((κs : K) → R κs → S κs → Seen) → Type 0
Tight {K} {A} {R} {S} Post seen =
    (κs : K) (a : A κs) (r r' : R κs) (s s' : S κs) → Post κs a r s → Post κs a r' s' → seen κs r s ≡ seen κs r' s'

-- whatever the arguments, nothing is left for the caller to show
abbrev pub AsksNothing : {K : Type 0} {A : K → Type 0} → ((κs : K) → A κs → Type 0) → Type 0
AsksNothing {K} {A} Pre = (κs : K) (a : A κs) → Pre κs a

-- what the promise says of every outcome that it allows
abbrev pub Says : {K : Type 0} {A R S : K → Type 0} → ((κs : K) → A κs → R κs → S κs → Type 0) → ((κs : K) → A κs → R κs → S κs → Type 0) → Type 0
Says {K} {A} {R} {S} Post claim = (κs : K) (a : A κs) (r : R κs) (s : S κs) → Post κs a r s → claim κs a r s
