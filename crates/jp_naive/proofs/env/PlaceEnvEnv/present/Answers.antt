use Rattle.jp_naive.proofs.env.PlaceEnvEnv.present.Goals as goal

pub returns : goal.returns
returns c = c.relations.ensures c.args.self.now.tables.now.list
