use Rattle.gj_top.proofs.command.reply_to.Goals as goal

pub returns-in-Minimal : goal.returns-in-Minimal
returns-in-Minimal c = rw c.in-Minimal.is c.reply.ensures

pub returns-in-Extreme : goal.returns-in-Extreme
returns-in-Extreme c = rw (c.in-Extreme.is, c.if-request.true) c.reply_with_jumps.ensures

pub returns-in-Extreme-2 : goal.returns-in-Extreme-2
returns-in-Extreme-2 c = rw (c.in-Extreme-2.is, c.if-request.false) c.reply-in-Extreme-2.ensures

pub returns-in-Show : goal.returns-in-Show
returns-in-Show c = rw c.in-Show.is c.reply-in-Show.ensures

pub returns-in-Check : goal.returns-in-Check
returns-in-Check c = rw c.in-Check.is c.reply-in-Check.ensures

pub returns-in-Faces : goal.returns-in-Faces
returns-in-Faces c = rw (c.in-Faces.is, c.if-request-2.true) c.reply_with_jumps-in-Faces.ensures

pub returns-in-Faces-2 : goal.returns-in-Faces-2
returns-in-Faces-2 c = rw (c.in-Faces-2.is, c.if-request-2.false) c.reply-in-Faces-2.ensures

pub returns-in-Cut : goal.returns-in-Cut
returns-in-Cut c = rw c.in-Cut.is c.reply-in-Cut.ensures

pub returns-in-Demo : goal.returns-in-Demo
returns-in-Demo c = rw c.in-Demo.is (c.reply-in-Demo.ensures c.args.input.now)

pub returns-in-Mixed : goal.returns-in-Mixed
returns-in-Mixed c = rw c.in-Mixed.is c.reply-in-Mixed.ensures

pub returns-in-Problem : goal.returns-in-Problem
returns-in-Problem c = rw c.in-Problem.is c.reply-in-Problem.ensures

pub returns-in-Derive : goal.returns-in-Derive
returns-in-Derive c = rw c.in-Derive.is c.reply-in-Derive.ensures

pub returns-in-Fill : goal.returns-in-Fill
returns-in-Fill c = rw c.in-Fill.is c.reply-in-Fill.ensures

pub returns-in-Group : goal.returns-in-Group
returns-in-Group c = rw c.in-Group.is c.reply-in-Group.ensures

pub returns-in-Times : goal.returns-in-Times
returns-in-Times c = rw c.in-Times.is c.times_reply.ensures

pub returns-in-Mirror : goal.returns-in-Mirror
returns-in-Mirror c = rw c.in-Mirror.is c.mirror_reply.ensures

pub returns-in-Restrict : goal.returns-in-Restrict
returns-in-Restrict c = rw c.in-Restrict.is c.restrict_reply.ensures
