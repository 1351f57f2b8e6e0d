use Rattle.std.proofs.Common.{◌↔◌, ◌++◌, IsTrue, subst, arith}
use Rattle.gj_shape.specs.Cover.{IsOneOf, links_of, triangle_projections}
use Rattle.gj_check.proofs.cover_lines.meets_rule.Goals as goal

pub returns : goal.returns
returns c before h =
    let f = c.args.shape.now in
    let l = c.args.line in
    let lines = c.requires.lines in
    let i_low = c.requires.line.interval in
    let j_low = c.requires.line.from in
    let all = links_of l.face.kind l.face.a l.face.b ++ triangle_projections l.face.kind l.face.a
    l.face.b in
    let joins = subst (λ q. IsTrue c.joins.result
    ↔ (IsOneOf q all l.interval × IsOneOf q all l.from)) c.order-order.ensures.value
    c.joins.ensures in
    let additive = c.is_additive.ensures.0 c.if-not-is_additive.false in (
      λ t. record {
        additive = additive;
        new = λ line. let has = (h l.interval (omega arith)).1 line in
            let no = c.if-has_line-line.false in absurd cc;
        opening = λ same. absurd (c.if-line.false same);
        earlier = λ other. (h l.from (omega arith)).0 c.if-not-has_line-line.false;
        joining = λ other. record {
          additive = additive;
          first = (joins.0 t).0;
          second =
              (joins.0 t).1;
        };
      },
      λ m. joins.1 ((m.joining c.if-line.false).first, (m.joining c.if-line.false).second),
    )
