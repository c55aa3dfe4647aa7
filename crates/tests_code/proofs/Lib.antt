mod OneFunction
