-- Whether two labels are the same for a rule, and that this is an equivalence. Assumes nothing.
use Rattle.std.specs.Prelude.{◌≡◌, ℕ, Bool, true, false, List, refl}
use Rattle.std.specs.declared.cmp.Ordering.TheVariants.{Less, Equal, Greater}
use Rattle.std.specs.declared.cmp.Ordering.{Ordering}
use Rattle.std.proofs.Common.{sym, ap, ◌∙◌}
use Rattle.std.proofs.lemmas.Bool.{false≢true}
use Rattle.std.proofs.lemmas.Map.Lookups.{exact_unsigned}
use Rattle.std.specs.Cmp.{IsPartialEquivalence, IsEquivalence, equiv}
use Rattle.std.specs.Ordering.{is_eq, nat_cmp}
use Rattle.order.specs.Carry.{lex_balanced}
use Rattle.order.specs.Lists.{lex}
use Rattle.order.specs.Numbers.{number_balanced}
use Rattle.standard.specs.Order.{ideal_order}
use Rattle.standard.specs.Parts as standard
use Rattle.standard.specs.Precedence.{Level}
use Rattle.standard.specs.Theorems.{Iff}
use Rattle.standard.proofs.Listing.{lex_equal}
use Rattle.standard.proofs.Precedences.{precedence_stands}
use Rattle.versioning.specs.First.{ideal, general, complex}
use Rattle.versioning.specs.Labels.{Parts}
use Rattle.mixed.specs.declared.label.VersioningIn.{VersioningIn}
use Rattle.mixed.specs.Labels.{equal_of, SameLabel, ideals, generals, complexes}
use Rattle.mixed.specs.Views.{parts_of, same}

-- an answer that is Equal
pub equal_from : (o : Ordering) → is_eq o ≡ true → o ≡ Equal
equal_from Less e = absurd (false≢true e)
equal_from Equal e = refl
equal_from Greater e = absurd (false≢true e)

text_equal : (s t : List ℕ) → Iff (is_eq (lex nat_cmp s t) ≡ true) (s ≡ t)
text_equal s t = (λ e. lex_equal exact_unsigned s t (equal_from (lex nat_cmp s t) e), λ e. ap (λ t. is_eq (lex nat_cmp s t)) (sym e) ∙ ap is_eq ((lex_balanced number_balanced).itself s))

level_equal : (p q : standard.Parts) → Iff (is_eq (ideal_order p q) ≡ true) (Level p q)
level_equal p q = (λ e. (precedence_stands p q).equal.0 (equal_from (ideal_order p q) e), λ l. ap is_eq ((precedence_stands p q).equal.1 l))

pub same_to : (s t : List ℕ) (x y : Parts) → equal_of s t x y ≡ true → SameLabel s t x y
same_to s t (ideal p) (ideal q) e = ideals ((level_equal p q).0 e)
same_to s t (ideal p) (general q) e = absurd (false≢true e)
same_to s t (ideal p) (complex q) e = absurd (false≢true e)
same_to s t (general p) (ideal q) e = absurd (false≢true e)
same_to s t (general p) (general q) e = generals ((text_equal s t).0 e)
same_to s t (general p) (complex q) e = absurd (false≢true e)
same_to s t (complex p) (ideal q) e = absurd (false≢true e)
same_to s t (complex p) (general q) e = absurd (false≢true e)
same_to s t (complex p) (complex q) e = complexes ((text_equal s t).0 e)

pub same_from : {s t : List ℕ} {x y : Parts} → SameLabel s t x y → equal_of s t x y ≡ true
same_from (ideals {p} {q} l) = (level_equal p q).1 l
same_from {s} {t} (generals {p} {q} e) = (text_equal s t).1 e
same_from {s} {t} (complexes {p} {q} e) = (text_equal s t).1 e

level_itself : (p : standard.Parts) → Level p p
level_itself p = record { core = record { major = refl; minor = refl; patch = refl }; release = refl }

level_back : {p q : standard.Parts} → Level p q → Level q p
level_back l = record { core = record { major = sym l.core.major; minor = sym l.core.minor; patch = sym l.core.patch }; release = sym l.release }

level_joined : {p q r : standard.Parts} → Level p q → Level q r → Level p r
level_joined l k = record { core = record { major = l.core.major ∙ k.core.major; minor = l.core.minor ∙ k.core.minor; patch = l.core.patch ∙ k.core.patch }; release = l.release ∙ k.release }

itself : (s : List ℕ) (x : Parts) → SameLabel s s x x
itself s (ideal p) = ideals (level_itself p)
itself s (general p) = generals refl
itself s (complex p) = complexes refl

back : {s t : List ℕ} {x y : Parts} → SameLabel s t x y → SameLabel t s y x
back (ideals l) = ideals (level_back l)
back (generals e) = generals (sym e)
back (complexes e) = complexes (sym e)

joined : {s t u : List ℕ} {x y z : Parts} → SameLabel s t x y → SameLabel t u y z → SameLabel s u x z
joined (ideals l) (ideals k) = ideals (level_joined l k)
joined (generals e) (generals f) = generals (e ∙ f)
joined (complexes e) (complexes f) = complexes (e ∙ f)

both_ways : (a b : Bool) → (a ≡ true → b ≡ true) → (b ≡ true → a ≡ true) → a ≡ b
both_ways true b f g = sym (f refl)
both_ways false true f g = g refl
both_ways false false f g = refl

said : (x y : VersioningIn) → same x y ≡ true → SameLabel x.text.now y.text.now (parts_of x) (parts_of y)
said x y e = same_to x.text.now y.text.now (parts_of x) (parts_of y) e

holds : (x y : VersioningIn) → SameLabel x.text.now y.text.now (parts_of x) (parts_of y) → same x y ≡ true
holds x y l = same_from {s = x.text.now} {t = y.text.now} l

pub same_partial : IsPartialEquivalence same
same_partial = record {
  symm = λ x y. both_ways _ _ (λ e. holds y x (back (said x y e))) (λ e. holds x y (back (said y x e)));
  trans = λ x y z e f. holds x z (joined (said x y e) (said y z f));
}

pub same_equivalence : IsEquivalence same
same_equivalence = equiv same_partial (λ x. holds x x (itself x.text.now (parts_of x)))
