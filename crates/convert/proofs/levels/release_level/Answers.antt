use Rattle.std.proofs.Common.{rules, ◌≡◌, Some, None, Option, refl, ap}
use Rattle.std.specs.Option.{option_map}
use Rattle.chunk.specs.declared.chunks.ChunksIn.{ChunksIn}
use Rattle.chunk.specs.Tables.{listed_in}
use Rattle.mess.specs.declared.sep.Sep.{Sep}
use Rattle.mess.specs.declared.sep.Sep.TheVariants.{Hyphen}
use Rattle.convert.specs.declared.level.Level.{Level}
use Rattle.convert.specs.declared.level.Level.TheVariants.{Release}
use Rattle.convert.specs.Convert.{release_level}
use Rattle.convert.specs.Said.{signed_said}
use Rattle.convert.proofs.levels.release_level.Goals as goal

behind : (o : Option ChunksIn) {r : Option (Sep × Level)} → (None ≡ o → r ≡ None) → ((x : ChunksIn) → Some x ≡ o → r ≡ Some (Hyphen, Release x)) → option_map signed_said r ≡ option_map (λ l. (Hyphen, l)) (release_level (option_map listed_in o))
behind None none some = ap (option_map signed_said) (none refl)
behind (Some x) none some = ap (option_map signed_said) (some x refl)

pub returns : goal.returns
returns c = behind c.args.release (λ e. search rules) (λ x e. search rules)
