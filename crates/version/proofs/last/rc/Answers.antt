use Rattle.std.proofs.Common.{Some, None, sym, subst}
use Rattle.std.specs.Char.{is_ascii_alphabetic}
use Rattle.texts.specs.Tables.{bytes_in}
use Rattle.parsers.specs.Places.{Gives}
use Rattle.parsers.specs.Reading.{stretch_of}
use Rattle.version.proofs.Fronts.{word_is, at_end, before_end}
use Rattle.version.proofs.last.rc.Goals as goal

pub returns-in_err-a : goal.returns-in_err-a
returns-in_err-a c = let n = c.in_err-a.ensures in rw (c.from_residual.ensures, word_is c.args.text.now c.args.word _ c.front-bytes.ensures, n)

pub returns-in_err-s : goal.returns-in_err-s
returns-in_err-s c =
    let f = c.front-bytes.ensures in
    let a = c.in_ok-a.ensures in
    let n = subst (λ t. Gives (bytes_in c.args.text.now) (stretch_of is_ascii_alphabetic) t c.in_ok-a.at None) (sym f) c.in_err-s.ensures in
    rw (c.from_residual-in_err-s.ensures, word_is c.args.text.now c.args.word _ f, a.0, n)

pub returns-in_err-b : goal.returns-in_err-b
returns-in_err-b c =
    let f = c.front-bytes.ensures in
    let a = c.in_ok-a.ensures in
    let s = subst (λ t. Gives (bytes_in c.args.text.now) (stretch_of is_ascii_alphabetic) t c.in_ok-a.at (Some (c.in_ok-s.s, c.in_ok-s.at))) (sym f) c.in_ok-s.ensures in
    let n = c.in_err-b.ensures in
    rw (c.from_residual-in_err-b.ensures, word_is c.args.text.now c.args.word _ f, a.0, s.0, n)

pub returns-then-at-bytes : goal.returns-then-at-bytes
returns-then-at-bytes c =
    let f = c.front-bytes.ensures in
    let a = c.in_ok-a.ensures in
    let s = subst (λ t. Gives (bytes_in c.args.text.now) (stretch_of is_ascii_alphabetic) t c.in_ok-a.at (Some (c.in_ok-s.s, c.in_ok-s.at))) (sym f) c.in_ok-s.ensures in
    let b = c.in_ok-b.ensures in
    rw (word_is c.args.text.now c.args.word _ f, a.0, s.0, b.0) (sym (before_end _ _ _ c.if-at-bytes.true))

pub returns : goal.returns
returns c =
    let f = c.front-bytes.ensures in
    let a = c.in_ok-a.ensures in
    let s = subst (λ t. Gives (bytes_in c.args.text.now) (stretch_of is_ascii_alphabetic) t c.in_ok-a.at (Some (c.in_ok-s.s, c.in_ok-s.at))) (sym f) c.in_ok-s.ensures in
    let b = c.in_ok-b.ensures in
    rw (word_is c.args.text.now c.args.word _ f, a.0, s.0, b.0) (sym (at_end _ _ _ c.if-at-bytes.false))
