use Rattle.gj_limit_faces.proofs.TermsOf.{vertical_second, lower_first, lower_third, upper_second}
use Rattle.gj_limit_faces.proofs.terms.terms_of.Goals as goal

pub returns-in-Vertical-default-clause-value : goal.returns-in-Vertical-default-clause-value
returns-in-Vertical-default-clause-value c f a b =
    let low = rw c.in-Vertical-default.is-0 at c.requires in
    rw (c.made_of-in-Vertical-default.ensures, c.in-Vertical-default.is-0)
    (vertical_second f a b c.args.corner low c.in-Vertical-default.is-1.1)

pub returns-in-Lower-eq0-clause-value : goal.returns-in-Lower-eq0-clause-value
returns-in-Lower-eq0-clause-value c f a b =
    rw (c.made_of-in-Lower-eq0.ensures, c.in-Lower-eq0.is-0, c.in-Lower-eq0.is-1)
    (lower_first f a b)

pub returns-in-Lower-default-clause-value : goal.returns-in-Lower-default-clause-value
returns-in-Lower-default-clause-value c f a b =
    let low = rw c.in-Lower-default.is-0 at c.requires in
    rw (c.made_of-in-Lower-default.ensures, c.in-Lower-default.is-0)
    (lower_third f a b c.args.corner low c.in-Lower-default.is-1.0.1 c.in-Lower-default.is-1.1)

pub returns-in-Upper-eq1-clause-value : goal.returns-in-Upper-eq1-clause-value
returns-in-Upper-eq1-clause-value c f a b =
    rw (c.made_of-in-Upper-eq1.ensures, c.in-Upper-eq1.is-0, c.in-Upper-eq1.is-1)
    (upper_second f a b)
