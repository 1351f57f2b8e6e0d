use Rattle.std.proofs.Common.{◌≡◌, ◌%◌, sym}
use Rattle.std.proofs.Math.Nat.{mod-eq_of_lt}
use Rattle.gj_complex.proofs.projecting.projections.Goals as goal

pub returns-in-Horizontal : goal.returns-in-Horizontal
returns-in-Horizontal c =
    let x : c.args.face.a ≡ c.args.face.a % c.args.q = sym (mod-eq_of_lt c.requires.first) in
    rw c.in-Horizontal.is cc

pub returns-in-Vertical : goal.returns-in-Vertical
returns-in-Vertical c =
    let y : c.args.face.b ≡ c.args.face.b % c.args.q = sym (mod-eq_of_lt c.requires.second) in
    rw c.in-Vertical.is cc

pub returns-in-Diagonal : goal.returns-in-Diagonal
returns-in-Diagonal c =
    let x : c.args.face.a ≡ c.args.face.a % c.args.q = sym (mod-eq_of_lt c.requires.first) in
    let y : c.args.face.b ≡ c.args.face.b % c.args.q = sym (mod-eq_of_lt c.requires.second) in
    rw c.in-Diagonal.is cc

pub returns-in-Lower : goal.returns-in-Lower
returns-in-Lower c =
    let x : c.args.face.a ≡ c.args.face.a % c.args.q = sym (mod-eq_of_lt c.requires.first) in
    let y : c.args.face.b ≡ c.args.face.b % c.args.q = sym (mod-eq_of_lt c.requires.second) in
    rw c.in-Lower.is cc

pub returns-in-Upper : goal.returns-in-Upper
returns-in-Upper c =
    let x : c.args.face.a ≡ c.args.face.a % c.args.q = sym (mod-eq_of_lt c.requires.first) in
    let y : c.args.face.b ≡ c.args.face.b % c.args.q = sym (mod-eq_of_lt c.requires.second) in
    rw c.in-Upper.is cc
