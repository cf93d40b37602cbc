-- The session has come to its end from where nothing was met.
use Rattle.std.proofs.Common.{◌∙◌, refl}
use Rattle.improve_cuts.proofs.Comes.{comes_on}
use Rattle.improve_cuts.proofs.Ends.{end_come, most_held, shown_come}
use Rattle.improve_cuts.proofs.session.Session.run.Goals as goal

pub returns-clause-names : goal.returns-clause-names
returns-clause-names g c =
    let f = c.search_rounds-ended.ensures.follows c.args.self.now
    (c.begin.ensures.follows c.args.self.now
    (refl, refl, refl, refl, refl, refl, λ start h. h, λ start h. h)) in
    (f.0, f.1, f.2, f.3, f.4)

pub returns-clause-follows : goal.returns-clause-follows
returns-clause-follows g c =
    let f = c.search_rounds-ended.ensures.follows c.args.self.now
    (c.begin.ensures.follows c.args.self.now
    (refl, refl, refl, refl, refl, refl, λ start h. h, λ start h. h)) in
    f.6

pub returns-clause-shown : goal.returns-clause-shown
returns-clause-shown g c =
    let b = c.begin.ensures.follows c.args.self.now
    (refl, refl, refl, refl, refl, refl, λ start h. h, λ start h. h) in
    let f = c.search_rounds-ended.ensures.follows c.begin.new.self
    (refl, refl, refl, refl, refl, refl, λ start h. h, λ start h. h) in
    let come = comes_on _ _ _ _ _ b.5 c.begin.ensures.come f.7 in
    shown_come _ _ _ come

pub returns-clause-waives : goal.returns-clause-waives
returns-clause-waives g c =
    let b = c.begin.ensures.follows c.args.self.now
    (refl, refl, refl, refl, refl, refl, λ start h. h, λ start h. h) in
    let f = c.search_rounds-ended.ensures.follows c.begin.new.self
    (refl, refl, refl, refl, refl, refl, λ start h. h, λ start h. h) in
    let come = comes_on _ _ _ _ _ b.5 c.begin.ensures.come f.7 in
    come.search.waives

pub returns-clause-origin : goal.returns-clause-origin
returns-clause-origin g c =
    let b = c.begin.ensures.follows c.args.self.now
    (refl, refl, refl, refl, refl, refl, λ start h. h, λ start h. h) in
    let f = c.search_rounds-ended.ensures.follows c.begin.new.self
    (refl, refl, refl, refl, refl, refl, λ start h. h, λ start h. h) in
    let come = comes_on _ _ _ _ _ b.5 c.begin.ensures.come f.7 in
    come.search.origin

pub returns-clause-finds : goal.returns-clause-finds
returns-clause-finds g c =
    let b = c.begin.ensures.follows c.args.self.now
    (refl, refl, refl, refl, refl, refl, λ start h. h, λ start h. h) in
    let f = c.search_rounds-ended.ensures.follows c.begin.new.self
    (refl, refl, refl, refl, refl, refl, λ start h. h, λ start h. h) in
    let come = comes_on _ _ _ _ _ b.5 c.begin.ensures.come f.7 in
    let most = most_held c.args.self.now.instance.now c.args.self.now.solver.now.log.cost
    c.args.start c.requires.begun.first_is in
    end_come _ _ _ come most _ (f.5 ∙ b.5) c.end.result c.end.ensures.ok c.end.ensures.err
